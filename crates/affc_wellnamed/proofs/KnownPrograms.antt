-- A program that is known is printed as a text that reads as it, and whose tokens a text can have.
use Rattle.std.proofs.Common.{◌≡◌, ◌⊎◌, inl, inr, ℕ, suc, ◌+◌, ◌^◌, ◌&&◌, ◌||◌, Bool, true, false, not, List, [], ◌∷◌, ◌++◌, length, Option, None, Some, is_some, ℤ, pos, negsuc, refl, sym, ap, subst, ◌∙◌, arith, append_assoc, if◌then◌else◌}
use Rattle.std.specs.List.{list_any, find}
use Rattle.std.proofs.lemmas.Bool.{and_parts, false≢true, ltb-true}
use Rattle.std.proofs.lemmas.List.{append-nil}
use Rattle.std.proofs.lemmas.List.Folds.{list_any-append}
use Rattle.std.proofs.lemmas.List.Sums.{sum_by-cons}
use Rattle.affc_lex.specs.Bytes.{same}
use Rattle.affc_lex.specs.Pieces.{is_word}
use Rattle.affc_ast.specs.Names.{is_reserved}
use Rattle.affc_ast.specs.declared.tree.Role.{Role}
use Rattle.affc_ast.specs.declared.tree.Role.TheVariants.{Input, Output, Temp}
use Rattle.affc_ast.specs.Joined.{is_ordered}
use Rattle.affc_ast.specs.declared.tree.Compare.{Compare}
use Rattle.affc_ast.specs.declared.tree.Decl.{Decl}
use Rattle.affc_ast.specs.declared.tree.Ix.{Ix}
use Rattle.affc_ast.specs.declared.tree.Param.{Param}
use Rattle.affc_ast.specs.declared.tree.Param.TheVariants.{Number, Array}
use Rattle.affc_ast.specs.declared.tree.Program.{Program}
use Rattle.affc_grammar.specs.declared.fault.NameWhy.TheVariants.{Reserved}
use Rattle.affc_grammar.specs.Grammar.{Name, context_calls}
use Rattle.affc_grammar.specs.Draft.{array_role}
use Rattle.affc_grammar.specs.Names.{Scope, Visible, Thing, function, array, first_reason, thing_of, with_number, with_array, why_declared, function_why}
use Rattle.affc_grammar.specs.Printed.{Names, no_names, and_number, and_array_name, is_input}
use Rattle.affc_cprint.specs.Layout.{pragmas_of}
use Rattle.affc_cprint.specs.Programs.{with_param_names, with_array_names}
use Rattle.affc_cprint.specs.Forms.{is_none}
use Rattle.affc_wellnamed.specs.Known as spec
use Rattle.affc_wellnamed.specs.Known.{Known, is_new, ix_known, compare_known, compares_known, is_divisor, known_behind, param_name, param_arrays, is_number, number_count, is_temp, extents_known, ixs_known, array_param_known, is_int, param_known, params_known, temp_known, temps_known, is_function, context_known, body_known, program_known}
use Rattle.affc_ast.proofs.Steps.{neg_here, add_here, sub_here, mul_here, min_here, max_here, mod_here, floord_here, ceild_here}
use Rattle.affc_cprint.proofs.Spelled.{off}
use Rattle.affc_cprint.proofs.Sees.{new_or_old, declared_none, not_static}
use Rattle.affc_cprint.proofs.ReadBackParams.{FitsInt, ParamsBack, scope_params}
use Rattle.affc_cprint.proofs.ReadBackTexts.{TempsBack, scope_temps, ProgramBack, outside_of, sees_outside, inside_of, names_of}
use Rattle.affc_cprint.proofs.Calls.{calls_step, calls_in, calls_beside, any_calls, printed_quiet}
use Rattle.affc_wellnamed.proofs.Knows.{Knows, new_is, knows_number, knows_array}
use Rattle.affc_wellnamed.proofs.Induction.{IxCases, every_ix}
use Rattle.affc_wellnamed.proofs.KnownBack.{some_is, name_declared, ixs_speak, compares_speak, stmts_say}

-- ---- Outside the parameters

pub knows_outside : (p : Program) → Knows (known_behind p.prelude p.name [] []) (outside_of p) no_names
knows_outside p = record {
  sees = sees_outside p;
  taken = λ v. of v (same p.name v);
  numbers = refl;
  arrays = refl;
  number_at = λ id lt. absurd (omega (arith, lt));
  array_at = λ id d e. absurd (nothing id d e);
  array_of = λ w id role n e. absurd (no_array w id role n (new_or_old (record { has_prelude = p.prelude; visible = [] }) p.name w function (array id role n) e));
}
  where
    of : (v : Name) (b : Bool) → (b || (false || false)) ≡ is_some (elim (if b then Some (record { name = p.name; thing = function }) else find (λ (x : Visible). same x.name v) []) as (λ x. Option Thing) [ None ↦ None | Some x ↦ Some x.thing ])
    of v true = refl
    of v false = refl

    nothing : (id : ℕ) (d : Decl) → None ≡ Some d → ⊥
    nothing id d e = cc

    no_array : (w : Name) (id : ℕ) (role : Role) (n : ℕ) → ((p.name ≡ w) × (function ≡ array id role n)) ⊎ (thing_of (record { has_prelude = p.prelude; visible = [] }) w ≡ Some (array id role n)) → ⊥
    no_array w id role n (inl e) = apart id role n e.1
      where
        apart : (id : ℕ) (role : Role) (n : ℕ) → function ≡ array id role n → ⊥
        apart id role n e = cc
    no_array w id role n (inr e) = cc

-- ---- Parameters and temporaries

abbrev one_if : Param → ℕ
one_if q = if is_number q then 1 else 0

count_end : (qs : List Param) (q : Param) → number_count (qs ++ q ∷ []) ≡ number_count qs + one_if q
count_end [] q = let e = sum_by-cons one_if q [] in let x = one_if q in omega (arith, e)
count_end (x ∷ qs) q =
    let a = sum_by-cons one_if x (qs ++ q ∷ []) in
    let b = sum_by-cons one_if x qs in
    let c = count_end qs q in
    omega (arith, a, b, c)

arrays_end : (qs : List Param) (d : Decl) → param_arrays (qs ++ Array d ∷ []) ≡ param_arrays qs ++ d ∷ []
arrays_end [] d = refl
arrays_end (Number w low high ∷ qs) d = arrays_end qs d
arrays_end (Array x ∷ qs) d = ap (λ l. x ∷ l) (arrays_end qs d)

arrays_same : (qs : List Param) (w : Name) (low high : ℤ) → param_arrays (qs ++ Number w low high ∷ []) ≡ param_arrays qs
arrays_same [] w low high = refl
arrays_same (Number v l u ∷ qs) w low high = arrays_same qs w low high
arrays_same (Array x ∷ qs) w low high = ap (λ l. x ∷ l) (arrays_same qs w low high)

later_param : (f a c d : Bool) → (f || ((a || (c || false)) || d)) ≡ (c || (f || (a || d)))
later_param true a true d = refl
later_param true a false d = refl
later_param false true true d = refl
later_param false true false d = refl
later_param false false true d = refl
later_param false false false d = refl

later_temp : (f a b c : Bool) → (f || (a || (b || (c || false)))) ≡ (c || (f || (a || b)))
later_temp true a b true = refl
later_temp true a b false = refl
later_temp false true b true = refl
later_temp false true b false = refl
later_temp false false true true = refl
later_temp false false true false = refl
later_temp false false false true = refl
later_temp false false false false = refl

taken_param : (f : Name) (before : List Param) (q : Param) (v : Name) → (same f v || (list_any (λ x. same (param_name x) v) (before ++ q ∷ []) || false)) ≡ (same (param_name q) v || (same f v || (list_any (λ x. same (param_name x) v) before || false)))
taken_param f before q v = ap (λ b. same f v || (b || false)) (list_any-append (λ x. same (param_name x) v) before (q ∷ [])) ∙ later_param (same f v) (list_any (λ x. same (param_name x) v) before) (same (param_name q) v) false

taken_temp : (f : Name) (qs : List Param) (before : List Decl) (d : Decl) (v : Name)
    → (same f v || (list_any (λ x. same (param_name x) v) qs || list_any (λ x. same x.name v) (before ++ d ∷ []))) ≡ (same d.name v || (same f v || (list_any (λ x. same (param_name x) v) qs || list_any (λ x. same x.name v) before)))
taken_temp f qs before d v = ap (λ b. same f v || (list_any (λ x. same (param_name x) v) qs || b)) (list_any-append (λ x. same x.name v) before (d ∷ [])) ∙ later_temp (same f v) (list_any (λ x. same (param_name x) v) qs) (list_any (λ x. same x.name v) before) (same d.name v)

int_fits_so : (z : ℤ) → is_int z ≡ true → FitsInt z
int_fits_so (pos n) h = ltb-true n (2 ^ 64) h
int_fits_so (negsuc n) h = ltb-true (suc n) (2 ^ 64) h

role_is : (role : Role) → not (is_temp role) ≡ true → array_role (is_input role) ≡ role
role_is Input h = refl
role_is Output h = refl
role_is Temp h = absurd (false≢true h)

temp_is : (role : Role) → is_temp role ≡ true → role ≡ Temp
temp_is Input h = absurd (false≢true h)
temp_is Output h = absurd (false≢true h)
temp_is Temp h = refl

pub knows_param_number : (prelude : Bool) (f : Name) (before : List Param) (scope : Scope) (names : Names) → Knows (known_behind prelude f before []) scope names → (w : Name) (low high : ℤ) → (is_word w ≡ true) × (why_declared scope false w ≡ None)
    → Knows (known_behind prelude f (before ++ Number w low high ∷ []) []) (with_number false scope w) (and_number names w)
knows_param_number prelude f before scope names k w low high n =
    knows_number (known_behind prelude f before []) (known_behind prelude f (before ++ Number w low high ∷ []) []) scope names k w false n.0 n.1 (taken_param f before (Number w low high)) (count_end before (Number w low high)) (ap (λ l. l ++ []) (arrays_same before w low high))

pub knows_param_array : (prelude : Bool) (f : Name) (before : List Param) (scope : Scope) (names : Names) → Knows (known_behind prelude f before []) scope names → (d : Decl) → (is_word d.name ≡ true) × (why_declared scope false d.name ≡ None)
    → Knows (known_behind prelude f (before ++ Array d ∷ []) []) (with_array scope d.name d.role (length d.extents)) (and_array_name names d.name)
knows_param_array prelude f before scope names k d n =
    let none : number_count (before ++ Array d ∷ []) ≡ number_count before = let c = count_end before (Array d) in omega (arith, c) in
    knows_array (known_behind prelude f before []) (known_behind prelude f (before ++ Array d ∷ []) []) scope names k d.name false n.0 n.1 (taken_param f before (Array d)) d (declared_none scope false d.name n.1).1 none
    (append-nil (param_arrays (before ++ Array d ∷ [])) ∙ arrays_end before d ∙ ap (λ l. l ++ d ∷ []) (sym (append-nil (param_arrays before))))

pub knows_temp : (prelude : Bool) (f : Name) (qs : List Param) (before : List Decl) (scope : Scope) (names : Names) → Knows (known_behind prelude f qs before) scope names → (d : Decl) → (is_word d.name ≡ true) × (why_declared scope false d.name ≡ None)
    → Knows (known_behind prelude f qs (before ++ d ∷ [])) (with_array scope d.name d.role (length d.extents)) (and_array_name names d.name)
knows_temp prelude f qs before scope names k d n =
    knows_array (known_behind prelude f qs before) (known_behind prelude f qs (before ++ d ∷ [])) scope names k d.name false n.0 n.1 (taken_temp f qs before d) d (declared_none scope false d.name n.1).1 refl
    (sym (append_assoc (param_arrays qs) before (d ∷ [])))

record ParamsSpoken (prelude : Bool) (f : Name) (before : List Param) (scope : Scope) (names : Names) (qs : List Param) : Type 0 where
  back : ParamsBack prelude scope names qs
  behind : Knows (known_behind prelude f (before ++ qs) []) (scope_params scope qs) (with_param_names names qs)
  same_prelude : (scope_params scope qs).has_prelude ≡ prelude

params_speak : (prelude : Bool) (f : Name) (before : List Param) (scope : Scope) (names : Names) → Knows (known_behind prelude f before []) scope names → scope.has_prelude ≡ prelude → (qs : List Param) → params_known prelude f before qs ≡ true → ParamsSpoken prelude f before scope names qs
params_speak prelude f before scope names k on [] h = record { back = tt; behind = subst (λ l. Knows (known_behind prelude f l []) scope names) (sym (append-nil before)) k; same_prelude = on }
params_speak prelude f before scope names k on (Number w low high ∷ qs) h =
    let known = known_behind prelude f before [] in
    let p = and_parts (param_known known (Number w low high)) (params_known prelude f (before ++ Number w low high ∷ []) qs) h in
    let q = and_parts (is_new known false w) (is_int low && is_int high) p.0 in
    let r = and_parts (is_int low) (is_int high) q.1 in
    let n = new_is known scope names k on false w q.0 in
    let more = params_speak prelude f (before ++ Number w low high ∷ []) (with_number false scope w) (and_number names w) (knows_param_number prelude f before scope names k w low high n) on qs p.1 in
    record {
      back = (record { declared = n.1; name = name_declared scope false w n; low_fits = int_fits_so low r.0; high_fits = int_fits_so high r.1 }, more.back);
      behind = subst (λ l. Knows (known_behind prelude f l []) (scope_params scope (Number w low high ∷ qs)) (with_param_names names (Number w low high ∷ qs))) (append_assoc before (Number w low high ∷ []) qs) more.behind;
      same_prelude = more.same_prelude;
    }
params_speak prelude f before scope names k on (Array d ∷ qs) h =
    let known = known_behind prelude f before [] in
    let p = and_parts (array_param_known known d) (params_known prelude f (before ++ Array d ∷ []) qs) h in
    let q = and_parts (is_new known false d.name) (not (is_temp d.role) && extents_known known d.extents) p.0 in
    let r = and_parts (not (is_temp d.role)) (extents_known known d.extents) q.1 in
    let s = and_parts (not (is_none d.extents)) (ixs_known known d.extents) r.1 in
    let n = new_is known scope names k on false d.name q.0 in
    let more = params_speak prelude f (before ++ Array d ∷ []) (with_array scope d.name d.role (length d.extents)) (and_array_name names d.name) (knows_param_array prelude f before scope names k d n) on qs p.1 in
    record {
      back = (record { declared = n.1; name = name_declared scope false d.name n; extents = ixs_speak prelude known scope names k (λ e. e) d.extents s.1; some = some_is d.extents s.0; role = role_is d.role r.0 }, more.back);
      behind = subst (λ l. Knows (known_behind prelude f l []) (scope_params scope (Array d ∷ qs)) (with_param_names names (Array d ∷ qs))) (append_assoc before (Array d ∷ []) qs) more.behind;
      same_prelude = more.same_prelude;
    }

record TempsSpoken (prelude : Bool) (f : Name) (qs : List Param) (before : List Decl) (scope : Scope) (names : Names) (ds : List Decl) : Type 0 where
  back : TempsBack prelude scope names ds
  behind : Knows (known_behind prelude f qs (before ++ ds)) (scope_temps scope ds) (with_array_names names ds)
  same_prelude : (scope_temps scope ds).has_prelude ≡ prelude

temps_speak : (prelude : Bool) (f : Name) (qs : List Param) (before : List Decl) (scope : Scope) (names : Names) → Knows (known_behind prelude f qs before) scope names → scope.has_prelude ≡ prelude → (ds : List Decl) → temps_known prelude f qs before ds ≡ true
    → TempsSpoken prelude f qs before scope names ds
temps_speak prelude f qs before scope names k on [] h = record { back = tt; behind = subst (λ l. Knows (known_behind prelude f qs l) scope names) (sym (append-nil before)) k; same_prelude = on }
temps_speak prelude f qs before scope names k on (d ∷ ds) h =
    let known = known_behind prelude f qs before in
    let p = and_parts (temp_known known d) (temps_known prelude f qs (before ++ d ∷ []) ds) h in
    let q = and_parts (is_new known false d.name) (is_temp d.role && ixs_known known d.extents) p.0 in
    let r = and_parts (is_temp d.role) (ixs_known known d.extents) q.1 in
    let n = new_is known scope names k on false d.name q.0 in
    let more = temps_speak prelude f qs (before ++ d ∷ []) (with_array scope d.name d.role (length d.extents)) (and_array_name names d.name) (knows_temp prelude f qs before scope names k d n) on ds p.1 in
    record {
      back = (record { declared = n.1; name = name_declared scope false d.name n; extents = ixs_speak prelude known scope names k (λ e. e) d.extents r.1; role = temp_is d.role r.0 }, more.back);
      behind = subst (λ l. Knows (known_behind prelude f qs l) (scope_temps scope (d ∷ ds)) (with_array_names names (d ∷ ds))) (append_assoc before (d ∷ []) ds) more.behind;
      same_prelude = more.same_prelude;
    }

-- ---- Calls

either_off : (a b : Bool) → a ≡ false → b ≡ false → (a || b) ≡ false
either_off a b p q = ap (λ z. z || b) p ∙ q

module _ (known : Known) (none : known.prelude ≡ false) where
  abbrev Quiet : Ix → Type 0
  Quiet e = ix_known known e ≡ true → calls_in e ≡ false

  both_quiet : (a b : Ix) → Quiet a → Quiet b → (ix_known known a && ix_known known b) ≡ true → (calls_in a || calls_in b) ≡ false
  both_quiet a b f g h = let p = and_parts (ix_known known a) (ix_known known b) h in either_off (calls_in a) (calls_in b) (f p.0) (g p.1)

  no_call : (b : Bool) {A : Type 0} → (known.prelude && b) ≡ true → A
  no_call b h = absurd (false≢true (sym none ∙ (and_parts known.prelude b h).0))

  quiet_cases : IxCases Quiet
  quiet_cases = record {
    lit = λ n h. refl;
    name = λ id h. refl;
    neg = λ a f h. neg_here calls_step a ∙ f (sym (neg_here (spec.ix_step known) a) ∙ h);
    add = λ a b f g h. add_here calls_step a b ∙ both_quiet a b f g (sym (add_here (spec.ix_step known) a b) ∙ h);
    sub = λ a b f g h. sub_here calls_step a b ∙ both_quiet a b f g (sym (sub_here (spec.ix_step known) a b) ∙ h);
    mul = λ a b f g h. mul_here calls_step a b ∙ both_quiet a b f g (sym (mul_here (spec.ix_step known) a b) ∙ h);
    min = λ a b f g h. no_call (ix_known known a && ix_known known b) (sym (min_here (spec.ix_step known) a b) ∙ h);
    max = λ a b f g h. no_call (ix_known known a && ix_known known b) (sym (max_here (spec.ix_step known) a b) ∙ h);
    remainder = λ a b f g h. no_call (ix_known known a && ix_known known b) (sym (mod_here (spec.ix_step known) a b) ∙ h);
    floord = λ a by f h. no_call (is_divisor by && ix_known known a) (sym (floord_here (spec.ix_step known) a by) ∙ h);
    ceild = λ a by f h. no_call (is_divisor by && ix_known known a) (sym (ceild_here (spec.ix_step known) a by) ∙ h);
  }

  compares_quiet : (cs : List Compare) → compares_known known cs ≡ true → any_calls cs ≡ false
  compares_quiet [] h = refl
  compares_quiet (c ∷ cs) h =
      let p = and_parts (compare_known known c) (compares_known known cs) h in
      let q = and_parts (is_ordered c.rel) (ix_known known c.left && ix_known known c.right) p.0 in
      either_off (calls_beside c) (any_calls cs) (both_quiet c.left c.right (every_ix Quiet quiet_cases c.left) (every_ix Quiet quiet_cases c.right) q.1) (compares_quiet cs p.1)

-- ---- The program

word_free : (scope : Scope) (w : Name) → not (is_reserved w) ≡ true → function_why scope w ≡ None
word_free scope w h = ap (λ b. first_reason ((b && true, Reserved) ∷ [])) (off (is_reserved w) h)

pub record Spoken (p : Program) : Type 0 where
  pub back : ProgramBack p
  pub calls : (p.prelude || not (context_calls (pragmas_of p))) ≡ true

pub program_speaks : (p : Program) → program_known p ≡ true → Spoken p
program_speaks p h =
    let a = and_parts (is_function p.name) (not (is_none p.params) && (params_known p.prelude p.name [] p.params && (context_known p && (temps_known p.prelude p.name p.params [] p.temps && body_known p)))) h in
    let b = and_parts (not (is_none p.params)) (params_known p.prelude p.name [] p.params && (context_known p && (temps_known p.prelude p.name p.params [] p.temps && body_known p))) a.1 in
    let c = and_parts (params_known p.prelude p.name [] p.params) (context_known p && (temps_known p.prelude p.name p.params [] p.temps && body_known p)) b.1 in
    let d = and_parts (context_known p) (temps_known p.prelude p.name p.params [] p.temps && body_known p) c.1 in
    let e = and_parts (temps_known p.prelude p.name p.params [] p.temps) (body_known p) d.1 in
    let f = and_parts (is_word p.name) (not (is_reserved p.name)) a.0 in
    let params = params_speak p.prelude p.name [] (outside_of p) no_names (knows_outside p) refl p.params c.0 in
    let temps = temps_speak p.prelude p.name p.params [] (inside_of p) (names_of p) params.behind params.same_prelude p.temps e.0 in
    let back : ProgramBack p = record {
      named = word_free (inside_of p) p.name f.1;
      name = record { is = f.0; other = not_static (inside_of p) false p.name (refused (inside_of p) p.name f.1) };
      params = params.back;
      some = some_is p.params b.0;
      context = compares_speak true (known_behind p.prelude p.name p.params []) (inside_of p) (names_of p) params.behind (λ x. refl) p.context d.0;
      temps = temps.back;
      body = stmts_say p.prelude (known_behind p.prelude p.name p.params p.temps) (scope_temps (inside_of p) p.temps) (with_array_names (names_of p) p.temps) temps.behind refl temps.same_prelude p.body e.1;
    } in
    record { back = back; calls = of p.prelude refl back d.0 }
  where
    refused : (scope : Scope) (w : Name) → not (is_reserved w) ≡ true → (is_reserved w && true) ≡ false
    refused scope w h = ap (λ b. b && true) (off (is_reserved w) h)

    of : (b : Bool) → p.prelude ≡ b → ProgramBack p → context_known p ≡ true → (p.prelude || not (context_calls (pragmas_of p))) ≡ true
    of true on back known = ap (λ b. b || not (context_calls (pragmas_of p))) on
    of false on back known = ap (λ b. b || not (context_calls (pragmas_of p))) on ∙ ap not (printed_quiet p back (compares_quiet (known_behind p.prelude p.name p.params []) on p.context known))
