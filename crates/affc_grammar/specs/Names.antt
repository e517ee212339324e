-- The rules on names, and the tree of a text whose names keep them. Names are looked at in the order of the text, and the first that is refused is the answer.
use Rattle.std.specs.Prelude.{ℕ, Bool, true, false, not, ◌&&◌, ◌==◌, List, [], ◌∷◌, ◌++◌, length, drop, codes, Option, Some, None, is_some, Result, Ok, Err, ℤ, pos, count_by, if◌then◌else◌}
use Rattle.std.specs.List.{list_any, find}
use Rattle.affc_lex.specs.Bytes.{same, begins}
use Rattle.affc_ast.specs.Names.{is_reserved}
use Rattle.affc_lex.specs.Pieces.{is_number}
use Rattle.affc_ast.specs.declared.tree.NameId.{NameId}
use Rattle.affc_ast.specs.declared.tree.ArrayId.{ArrayId}
use Rattle.affc_ast.specs.declared.tree.Ix.{Ix}
use Rattle.affc_ast.specs.declared.tree.Ix.TheVariants as ix
use Rattle.affc_ast.specs.declared.tree.Val.{Val}
use Rattle.affc_ast.specs.declared.tree.Val.TheVariants as val
use Rattle.affc_ast.specs.declared.tree.Compare.{Compare}
use Rattle.affc_ast.specs.declared.tree.Cond.{Cond}
use Rattle.affc_ast.specs.declared.tree.Cond.TheVariants as cond
use Rattle.affc_ast.specs.declared.tree.Local.{Local}
use Rattle.affc_ast.specs.declared.tree.Stmt.{Stmt}
use Rattle.affc_ast.specs.declared.tree.Stmt.TheVariants as stmt
use Rattle.affc_ast.specs.declared.tree.Role.{Role}
use Rattle.affc_ast.specs.declared.tree.Role.TheVariants.{Input}
use Rattle.affc_ast.specs.declared.tree.Decl.{Decl}
use Rattle.affc_ast.specs.declared.tree.Param.{Param}
use Rattle.affc_ast.specs.declared.tree.Param.TheVariants.{Number, Array}
use Rattle.affc_ast.specs.declared.tree.Program.{Program}
use Rattle.affc_grammar.specs.declared.fault.NameWhy.{NameWhy}
use Rattle.affc_grammar.specs.declared.fault.NameWhy.TheVariants.{Unknown, Twice, Reserved, Const, Kind, NoRange}
use Rattle.affc_grammar.specs.Grammar.{Name, Choice, minimum, maximum, remainder, Rounding, down, up}
use Rattle.affc_grammar.specs.Draft.{IxDraft, literal, name, negated, sum, difference, product, grouped, chosen, divided, CompareDraft, CondsDraft, no_conds, and_cond, CondDraft, comparison, divisible, all_of, any_of, ValueDraft, load, constant, cast, complement, binary, shift, LocalDraft, HeadDraft, StmtsDraft, no_stmts, and_stmt, StmtDraft, for_loop, if_cond, assign, block, DeclDraft, ParamDraft, number_param, array_param, PragmaDraft, range, context, TextDraft}

-- affc_t0, affc_t1, ..
abbrev pub is_time_name : Name → Bool
is_time_name w = begins (codes "affc_t") w && is_number (drop 6 w)

-- ---- What is visible

pub data Thing : Type 0 where
  function : Thing
  -- a parameter, an iterator or a local; numbers are counted from 0, from the outermost on
  number : ℕ → (is_iterator : Bool) → Thing
  -- arrays are counted from 0: the parameters, then the temporaries
  array : ℕ → Role → (dimensions : ℕ) → Thing

pub record Visible : Type 0 where
  pub name : Name
  pub thing : Thing

-- what is visible at a place, from the latest to the first that was declared, and whether the text has the prelude
pub record Scope : Type 0 where
  pub has_prelude : Bool
  pub visible : List Visible

-- the latest thing of this name
abbrev pub thing_of : Scope → Name → Option Thing
thing_of scope w = elim (find (λ v. same v.name w) scope.visible) [ None ↦ None | Some v ↦ Some v.thing ]

abbrev pub is_number_thing : Visible → Bool
is_number_thing v = elim v.thing [ function ↦ false | number id it ↦ true | array id role n ↦ false ]

abbrev pub is_array_thing : Visible → Bool
is_array_thing v = elim v.thing [ function ↦ false | number id it ↦ false | array id role n ↦ true ]

abbrev pub with_thing : Scope → Name → Thing → Scope
with_thing scope w thing = record scope { visible = record { name = w; thing = thing } ∷ scope.visible }

abbrev pub with_number : (is_iterator : Bool) → Scope → Name → Scope
with_number it scope w = with_thing scope w (number (count_by is_number_thing scope.visible) it)

abbrev pub with_array : Scope → Name → Role → (dimensions : ℕ) → Scope
with_array scope w role n = with_thing scope w (array (count_by is_array_thing scope.visible) role n)

-- ---- Why a name is refused

-- the first reason whose test holds
abbrev pub first_reason : List (Bool × NameWhy) → Option NameWhy
first_reason [] = None
first_reason (r ∷ rs) = if r.0 then Some r.1 else first_reason rs

abbrev pub is_refused_word : Scope → (is_iterator : Bool) → Name → Bool
is_refused_word scope it w = is_reserved w && not (it && scope.has_prelude && is_time_name w)

abbrev pub is_input : Role → Bool
is_input Input = true
is_input _ = false

-- of a name that is declared
abbrev pub why_declared : Scope → (is_iterator : Bool) → Name → Option NameWhy
why_declared scope it w = first_reason ((is_some (thing_of scope w), Twice) ∷ (is_refused_word scope it w, Reserved) ∷ [])

-- of a name that stands for a number: in bounds, conditions, subscripts, extents, casts and locals
abbrev pub why_number : Scope → Name → Option Thing → Option NameWhy
why_number scope w None = Some Unknown
why_number scope w (Some function) = first_reason ((is_refused_word scope false w, Reserved) ∷ (true, Kind) ∷ [])
why_number scope w (Some (number id it)) = first_reason ((is_refused_word scope it w, Reserved) ∷ [])
why_number scope w (Some (array id role n)) = first_reason ((is_refused_word scope false w, Reserved) ∷ (true, Kind) ∷ [])

-- of a name that stands for an array with so many subscripts
abbrev pub why_array : Scope → Name → (is_store : Bool) → (subscripts : ℕ) → Option Thing → Option NameWhy
why_array scope w is_store count None = Some Unknown
why_array scope w is_store count (Some function) = first_reason ((is_refused_word scope false w, Reserved) ∷ (true, Kind) ∷ [])
why_array scope w is_store count (Some (number id it)) = first_reason ((is_refused_word scope it w, Reserved) ∷ (true, Kind) ∷ [])
why_array scope w is_store count (Some (array id role n)) = first_reason ((is_refused_word scope false w, Reserved) ∷ (is_store && is_input role, Const) ∷ (not (n == count), Kind) ∷ [])

-- of a name that is not the iterator of its `for`
abbrev pub why_other : Scope → Name → Option Thing → Option NameWhy
why_other scope w None = Some Unknown
why_other scope w (Some (number id it)) = first_reason ((is_refused_word scope it w, Reserved) ∷ (true, Kind) ∷ [])
why_other scope w (Some thing) = first_reason ((is_refused_word scope false w, Reserved) ∷ (true, Kind) ∷ [])

-- of the second and the third word of a `for`, given its first word
abbrev pub why_repeated : Scope → (iterator : Name) → Name → Option NameWhy
why_repeated scope iterator w = if same iterator w then None else why_other scope w (thing_of scope w)

-- of a name that is given a range; `earlier` are the names that were given one before
abbrev pub why_ranged : Scope → (earlier : List Name) → Name → Option Thing → Option NameWhy
why_ranged scope earlier w None = Some Unknown
why_ranged scope earlier w (Some (number id it)) = first_reason ((list_any (same w) earlier, Twice) ∷ (is_refused_word scope it w, Reserved) ∷ [])
why_ranged scope earlier w (Some thing) = first_reason ((list_any (same w) earlier, Twice) ∷ (is_refused_word scope false w, Reserved) ∷ (true, Kind) ∷ [])

-- ---- The tree, or the first name that is refused

pub record Refusal : Type 0 where
  pub at : ℕ
  pub why : NameWhy

abbrev pub Checked : Type 0 → Type 0
Checked A = Result A Refusal

infixl 10 ◌>>=◌
abbrev pub ◌>>=◌ : {A B : Type 0} → Checked A → (A → Checked B) → Checked B
(Ok a) >>= f = f a
(Err r) >>= f = Err r

-- what is answered next, where the name is not refused
abbrev pub allowed : {A : Type 0} → Option NameWhy → (at : ℕ) → Checked A → Checked A
allowed None at next = next
allowed (Some why) at next = Err (record { at = at; why = why })

-- each of a list, in order
abbrev pub each : {A B : Type 0} → (A → Checked B) → List A → Checked (List B)
each f [] = Ok []
each f (a ∷ as') = f a >>= (λ b. each f as' >>= (λ bs. Ok (b ∷ bs)))

abbrev pub number_id : Option Thing → NameId
number_id (Some (number id it)) = record { 0 = id }
number_id _ = record { 0 = 0 }

abbrev pub array_id : Option Thing → ArrayId
array_id (Some (array id role n)) = record { 0 = id }
array_id _ = record { 0 = 0 }

abbrev pub number_named : Scope → (at : ℕ) → Name → Checked NameId
number_named scope at w = let thing = thing_of scope w in allowed (why_number scope w thing) at (Ok (number_id thing))

abbrev pub array_named : Scope → (at : ℕ) → Name → (is_store : Bool) → (subscripts : ℕ) → Checked ArrayId
array_named scope at w is_store count = let thing = thing_of scope w in allowed (why_array scope w is_store count thing) at (Ok (array_id thing))

abbrev pub choice_tree : Choice → Ix → Ix → Ix
choice_tree minimum = ix.Min
choice_tree maximum = ix.Max
choice_tree remainder = ix.Mod

abbrev pub rounding_tree : Rounding → Ix → ℤ → Ix
rounding_tree down = ix.Floord
rounding_tree up = ix.Ceild

abbrev pub ix_tree : Scope → IxDraft → Checked Ix
ix_tree scope (literal at n) = Ok (ix.Lit (pos n))
ix_tree scope (name at w) = number_named scope at w >>= (λ id. Ok (ix.Name id))
ix_tree scope (negated at a) = ix_tree scope a >>= (λ x. Ok (ix.Neg x))
ix_tree scope (sum a b) = ix_tree scope a >>= (λ x. ix_tree scope b >>= (λ y. Ok (ix.Add x y)))
ix_tree scope (difference a b) = ix_tree scope a >>= (λ x. ix_tree scope b >>= (λ y. Ok (ix.Sub x y)))
ix_tree scope (product at a b) = ix_tree scope a >>= (λ x. ix_tree scope b >>= (λ y. Ok (ix.Mul x y)))
ix_tree scope (grouped at a) = ix_tree scope a
ix_tree scope (chosen at f a b) = ix_tree scope a >>= (λ x. ix_tree scope b >>= (λ y. Ok (choice_tree f x y)))
ix_tree scope (divided at f a by_at by) = ix_tree scope a >>= (λ x. Ok (rounding_tree f x (pos by)))

abbrev pub compare_tree : Scope → CompareDraft → Checked Compare
compare_tree scope c = ix_tree scope c.left >>= (λ x. ix_tree scope c.right >>= (λ y. Ok (record { rel = c.rel; left = x; right = y })))

abbrev mutual
  pub conds_tree : Scope → CondsDraft → Checked (List Cond)
  conds_tree scope no_conds = Ok []
  conds_tree scope (and_cond cs c) = conds_tree scope cs >>= (λ xs. cond_tree scope c >>= (λ x. Ok (xs ++ x ∷ [])))

  pub cond_tree : Scope → CondDraft → Checked Cond
  cond_tree scope (comparison c) = ix_tree scope c.left >>= (λ x. ix_tree scope c.right >>= (λ y. Ok (cond.Compare c.rel x y)))
  cond_tree scope (divisible a by_at by so) = ix_tree scope a >>= (λ x. Ok (cond.Divides x (pos by) so))
  cond_tree scope (all_of cs) = conds_tree scope cs >>= (λ xs. Ok (cond.All xs))
  cond_tree scope (any_of cs) = conds_tree scope cs >>= (λ xs. Ok (cond.Any xs))

abbrev pub value_tree : Scope → ValueDraft → Checked Val
value_tree scope (load at w subs) = array_named scope at w false (length subs) >>= (λ id. each (ix_tree scope) subs >>= (λ xs. Ok (val.Load id xs)))
value_tree scope (constant n) = Ok (val.Const n)
value_tree scope (cast a) = ix_tree scope a >>= (λ x. Ok (val.Cast x))
value_tree scope (complement v) = value_tree scope v >>= (λ x. Ok (val.Not x))
value_tree scope (binary op v w) = value_tree scope v >>= (λ x. value_tree scope w >>= (λ y. Ok (val.Bin op x y)))
value_tree scope (shift left v by) = value_tree scope v >>= (λ x. Ok (val.Shift left x by))

-- locals in order; each is visible behind itself
abbrev pub locals_tree : Scope → List LocalDraft → Checked (List Local × Scope)
locals_tree scope [] = Ok ([], scope)
locals_tree scope (l ∷ ls) =
    allowed (why_declared scope false l.name) l.at (
    ix_tree scope l.value >>= (λ x.
    locals_tree (with_number false scope l.name) ls >>= (λ others.
    Ok (record { name = l.name; value = x } ∷ others.0, others.1))))

-- the bounds of a `for` are read outside it: its iterator is not visible there
abbrev pub head_tree : Scope → HeadDraft → Checked (Ix × Ix)
head_tree scope h =
    let iterator = h.iterator.name in
    allowed (why_declared scope true iterator) h.iterator.at (
    ix_tree scope h.low >>= (λ low.
    allowed (why_repeated scope iterator h.tested.name) h.tested.at (
    ix_tree scope h.high >>= (λ high.
    allowed (why_repeated scope iterator h.stepped.name) h.stepped.at (Ok (low, high))))))

abbrev mutual
  pub stmts_tree : Scope → StmtsDraft → Checked (List Stmt)
  stmts_tree scope no_stmts = Ok []
  stmts_tree scope (and_stmt ss s) = stmts_tree scope ss >>= (λ xs. stmt_tree scope s >>= (λ x. Ok (xs ++ x ∷ [])))

  pub stmt_tree : Scope → StmtDraft → Checked Stmt
  stmt_tree scope (for_loop h body) =
      head_tree scope h >>= (λ bounds.
      stmts_tree (with_number true scope h.iterator.name) body >>= (λ xs.
      Ok (stmt.For h.iterator.name bounds.0 h.rel bounds.1 xs)))
  stmt_tree scope (if_cond at c body other) =
      cond_tree scope c >>= (λ x.
      stmts_tree scope body >>= (λ xs.
      stmts_tree scope other >>= (λ ys.
      Ok (stmt.If x xs ys))))
  stmt_tree scope (assign w subs op v) =
      array_named scope w.at w.name true (length subs) >>= (λ id.
      each (ix_tree scope) subs >>= (λ xs.
      value_tree scope v >>= (λ x.
      Ok (stmt.Assign op id xs x))))
  stmt_tree scope (block ls body) = locals_tree scope ls >>= (λ r. stmts_tree r.1 body >>= (λ xs. Ok (stmt.Block r.0 xs)))

-- ---- The whole text

abbrev pub with_param : Scope → ParamDraft → Scope
with_param scope (number_param w) = with_number false scope w.name
with_param scope (array_param d) = with_array scope d.word.name d.role (length d.extents)

abbrev pub with_params : Scope → List ParamDraft → Scope
with_params scope [] = scope
with_params scope (p ∷ ps) = with_params (with_param scope p) ps

-- outside the parameters only the function is visible
abbrev pub outermost : TextDraft → Scope
outermost c = record { has_prelude = c.has_prelude; visible = record { name = c.function.name; thing = function } ∷ [] }

-- lines before the function see it and its parameters
abbrev pub pragmas_tree : Scope → (earlier : List Name) → List PragmaDraft → Checked (List Compare)
pragmas_tree scope earlier [] = Ok []
pragmas_tree scope earlier (range w low_at low high ∷ ps) = allowed (why_ranged scope earlier w.name (thing_of scope w.name)) w.at (pragmas_tree scope (w.name ∷ earlier) ps)
pragmas_tree scope earlier (context at cs ∷ ps) = each (compare_tree scope) cs >>= (λ xs. pragmas_tree scope earlier ps >>= (λ others. Ok (xs ++ others)))

-- the range that a line gives the name
abbrev pub range_of : Name → List PragmaDraft → Option (ℤ × ℤ)
range_of w [] = None
range_of w (range v low_at low high ∷ ps) = if same v.name w then Some (low, high) else range_of w ps
range_of w (context at cs ∷ ps) = range_of w ps

abbrev pub number_tree : (at : ℕ) → Name → Option (ℤ × ℤ) → Checked Param
number_tree at w None = Err (record { at = at; why = NoRange })
number_tree at w (Some r) = Ok (Number w r.0 r.1)

-- extents see what was declared before their array
abbrev pub decl_tree : Scope → DeclDraft → Checked Decl
decl_tree scope d =
    allowed (why_declared scope false d.word.name) d.word.at (
    each (ix_tree scope) d.extents >>= (λ xs.
    Ok (record { name = d.word.name; role = d.role; extents = xs })))

abbrev pub param_tree : Scope → List PragmaDraft → ParamDraft → Checked Param
param_tree scope ps (number_param w) = allowed (why_declared scope false w.name) w.at (number_tree w.at w.name (range_of w.name ps))
param_tree scope ps (array_param d) = decl_tree scope d >>= (λ decl. Ok (Array decl))

abbrev pub params_tree : Scope → List PragmaDraft → List ParamDraft → Checked (List Param)
params_tree scope ps [] = Ok []
params_tree scope ps (q ∷ qs) = param_tree scope ps q >>= (λ x. params_tree (with_param scope q) ps qs >>= (λ xs. Ok (x ∷ xs)))

abbrev pub temps_tree : Scope → List DeclDraft → Checked (List Decl × Scope)
temps_tree scope [] = Ok ([], scope)
temps_tree scope (d ∷ ds) =
    decl_tree scope d >>= (λ x.
    temps_tree (with_array scope d.word.name d.role (length d.extents)) ds >>= (λ others.
    Ok (x ∷ others.0, others.1)))

abbrev pub function_why : Scope → Name → Option NameWhy
function_why scope w = first_reason ((is_refused_word scope false w, Reserved) ∷ [])

abbrev pub program_tree : TextDraft → Checked Program
program_tree c =
    let inside = with_params (outermost c) c.params in
    pragmas_tree inside [] c.pragmas >>= (λ conditions.
    allowed (function_why inside c.function.name) c.function.at (
    params_tree (outermost c) c.pragmas c.params >>= (λ params.
    temps_tree inside c.temps >>= (λ temps.
    stmts_tree temps.1 c.body >>= (λ body.
    Ok (record { name = c.function.name; params = params; context = conditions; temps = temps.0; body = body; prelude = c.has_prelude }))))))
