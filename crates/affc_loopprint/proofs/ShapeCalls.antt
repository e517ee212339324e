-- Without the prelude a program has no calls and no locals: it is printed behind the prelude with as many tokens and brackets, and one token more in its head.
use Rattle.std.proofs.Common.{◌≡◌, ℕ, ◌+◌, ◌≤◌, ◌&&◌, ◌||◌, Bool, true, false, not, nat_le, List, [], ◌∷◌, ◌++◌, length, map, refl, sym, ap, subst, ◌∙◌, arith}
use Rattle.std.proofs.lemmas.Bool.{and_parts, false≢true}
use Rattle.affc_ast.specs.declared.tree.Cond.{Cond}
use Rattle.affc_ast.specs.declared.tree.Decl.{Decl}
use Rattle.affc_ast.specs.declared.tree.Role.{Role}
use Rattle.affc_ast.specs.declared.tree.Param.{Param}
use Rattle.affc_ast.specs.declared.tree.Param.TheVariants.{Number, Array}
use Rattle.affc_ast.specs.declared.tree.Local.{Local}
use Rattle.affc_ast.specs.declared.tree.Ix.{Ix}
use Rattle.affc_ast.specs.declared.tree.Ix.TheOpen.{Ix-F}
use Rattle.affc_ast.specs.declared.tree.Val.{Val}
use Rattle.affc_ast.specs.declared.tree.Val.TheOpen.{Val-F}
use Rattle.affc_ast.specs.declared.tree.Stmt.{Stmt}
use Rattle.affc_ast.specs.declared.tree.Program.{Program}
use Rattle.affc_grammar.specs.Grammar.{Name}
use Rattle.affc_cprint.specs.Forms.{is_none}
use Rattle.affc_cprint.specs.Places.{divides}
use Rattle.affc_cprint.specs.declared.brackets.Place.TheVariants.{Whole, RightOfSum, UnderMinus}
use Rattle.affc_cprint.specs.declared.brackets.Level.TheVariants.{Primary, Shifted, Or}
use Rattle.affc_wellnamed.specs.declared.shape.Extent.{Extent}
use Rattle.affc_wellnamed.specs.declared.shape.ValExtent.{ValExtent}
use Rattle.affc_wellnamed.specs.declared.shape.CondExtent.{CondExtent}
use Rattle.affc_wellnamed.specs.declared.shape.Shape.{Shape}
use Rattle.affc_wellnamed.specs.Known as known
use Rattle.affc_wellnamed.specs.Known.{Known, CondKnown, and_iterator, and_locals, is_new, is_bound, takes, ix_known, ixs_known, cond_known, value_known, for_known, block_known, locals_known, all_at, stmt_known, is_temp, extents_known, known_behind, param_known, params_known, temp_known, temps_known, is_function, context_known, body_known, program_known}
use Rattle.affc_wellnamed.specs.Shape.{nothing, beside, and_tokens, bracketed, placed, negated, sum, product, ix_step, ix_extent, whole, dims_behind, alone, joined_extent, remainder_extent, cond_step, cond_extent, at_level, binary, val_step, val_extent, both, line, worded, closed, all_behind, other_behind, for_head, if_head, block_head, stmt_step, stmt_shape, head_tokens, array_extent, param_extent, params_behind, params_extent, decls_behind, head_line, function_shape}
use Rattle.affc_ast.proofs.Steps.{neg_here, floord_here, ceild_here, add_here, sub_here, mul_here, min_here, max_here, mod_here, not_here, bin_here, shift_here, all_here, any_here, for_here, if_here, block_here}
use Rattle.affc_cprint.proofs.ReadBackValues.{Each}
use Rattle.affc_wellnamed.proofs.Induction.{IxCases, every_ix, ValCases, every_val, CondCases, every_cond, StmtCases, every_stmt}
use Rattle.affc_wellnamed.proofs.ShapeParts.{larger_is}
use Rattle.affc_loopprint.specs.Short.{with_prelude}
use Rattle.affc_loopprint.proofs.ShapeMoved.{two}

-- ---- Expressions and values

module _ (sight : Known) (off : sight.prelude ≡ false) where
  no_call : {A : Type 0} (b : Bool) → sight.prelude && b ≡ true → A
  no_call b h = absurd (false≢true (sym off ∙ (and_parts sight.prelude b h).0))

  abbrev Same : Ix → Type 0
  Same e = ix_known sight e ≡ true → ix_extent true e ≡ ix_extent false e

  abbrev known_step : Ix-F Bool → Bool
  known_step = known.ix_step sight

  ix_cases : IxCases Same
  ix_cases = record {
    lit = λ n h. refl;
    name = λ id h. refl;
    neg = λ a f h. neg_here (ix_step true) a ∙ ap (λ z. negated (placed UnderMinus z)) (f (sym (neg_here known_step a) ∙ h)) ∙ sym (neg_here (ix_step false) a);
    add = λ a b f g h. let p = and_parts (ix_known sight a) (ix_known sight b) (sym (add_here known_step a b) ∙ h) in add_here (ix_step true) a b ∙ two sum _ _ _ _ (f p.0) (g p.1) ∙ sym (add_here (ix_step false) a b);
    sub = λ a b f g h. let p = and_parts (ix_known sight a) (ix_known sight b) (sym (sub_here known_step a b) ∙ h) in sub_here (ix_step true) a b ∙ two sum _ _ _ _ (f p.0) (g p.1) ∙ sym (sub_here (ix_step false) a b);
    mul = λ a b f g h. let p = and_parts (ix_known sight a) (ix_known sight b) (sym (mul_here known_step a b) ∙ h) in mul_here (ix_step true) a b ∙ two product _ _ _ _ (f p.0) (g p.1) ∙ sym (mul_here (ix_step false) a b);
    min = λ a b f g h. no_call _ (sym (min_here known_step a b) ∙ h);
    max = λ a b f g h. no_call _ (sym (max_here known_step a b) ∙ h);
    remainder = λ a b f g h. no_call _ (sym (mod_here known_step a b) ∙ h);
    floord = λ a by f h. no_call _ (sym (floord_here known_step a by) ∙ h);
    ceild = λ a by f h. no_call _ (sym (ceild_here known_step a by) ∙ h);
  }

  same_extent : (e : Ix) → Same e
  same_extent e = every_ix Same ix_cases e

  same_whole : (e : Ix) → ix_known sight e ≡ true → whole true e ≡ whole false e
  same_whole e h = ap (placed Whole) (same_extent e h)

  same_dims : (a : Extent) (es : List Ix) → ixs_known sight es ≡ true → dims_behind true a es ≡ dims_behind false a es
  same_dims a [] h = refl
  same_dims a (e ∷ es) h =
      let p = and_parts (ix_known sight e) (ixs_known sight es) h in
      ap (λ z. dims_behind true (beside a (bracketed z)) es) (same_whole e p.0) ∙ same_dims (beside a (bracketed (whole false e))) es p.1

  abbrev SameCond : Cond → Type 0
  SameCond c = cond_known sight c ≡ true → cond_extent true c ≡ cond_extent false c

  abbrev seen : Cond → CondKnown
  seen = known.cond_seen sight

  same_each : (all : Bool) (cs : List Cond) → Each SameCond cs → known.each_known all (map seen cs) ≡ true → map (cond_extent true) cs ≡ map (cond_extent false) cs
  same_each all [] f h = refl
  same_each all (c ∷ cs) f h =
      let p = and_parts (not (known.is_joined_by all (seen c)) && (seen c).is_known) (known.each_known all (map seen cs)) h in
      let q = and_parts (not (known.is_joined_by all (seen c))) (seen c).is_known p.0 in
      two (λ x xs. x ∷ xs) _ _ _ _ (f.0 q.1) (same_each all cs f.1 p.1)

  same_joined : (all : Bool) (cs : List Cond) → Each SameCond cs → known.joined_known all (map seen cs) ≡ true → joined_extent all (map (cond_extent true) cs) ≡ joined_extent all (map (cond_extent false) cs)
  same_joined all cs f h = ap (joined_extent all) (same_each all cs f (and_parts (nat_le 2 (length (map seen cs))) (known.each_known all (map seen cs)) h).1)

  cond_cases : CondCases SameCond
  cond_cases = record {
    compare = λ rel left right h. let p = and_parts (ix_known sight left) (ix_known sight right) h in two (λ x y. alone (and_tokens 1 (beside x y))) _ _ _ _ (same_whole left p.0) (same_whole right p.1);
    all = λ cs f h.
        all_here (cond_step true) cs ∙ same_joined true cs f (sym (ap (λ (k : CondKnown). k.is_known) (all_here (known.cond_step sight) cs)) ∙ h) ∙ sym (all_here (cond_step false) cs);
    any = λ cs f h.
        any_here (cond_step true) cs ∙ same_joined false cs f (sym (ap (λ (k : CondKnown). k.is_known) (any_here (known.cond_step sight) cs)) ∙ h) ∙ sym (any_here (cond_step false) cs);
    divides = λ value by so h. ap (λ z. remainder_extent (divides true by) (placed RightOfSum z)) (same_extent value (and_parts (known.is_divisor by) (ix_known sight value) h).1);
  }

  same_cond : (c : Cond) → SameCond c
  same_cond c = every_cond SameCond cond_cases c

  abbrev SameValue : Val → Type 0
  SameValue v = value_known sight v ≡ true → val_extent true v ≡ val_extent false v

  abbrev value_step : Val-F Bool → Bool
  value_step = known.value_step sight

  val_cases : ValCases SameValue
  val_cases = record {
    load = λ id subs h. ap {B = ValExtent} (λ z. record { extent = z; level = 0 }) (same_dims (record { tokens = 1; depth = 0 }) subs (and_parts _ (ixs_known sight subs) h).1);
    const = λ n h. refl;
    cast = λ e h. ap {B = ValExtent} (λ z. record { extent = and_tokens 3 (bracketed z); level = 0 }) (same_whole e h);
    not = λ a f h. not_here (val_step true) a ∙ ap {B = ValExtent} (λ z. record { extent = and_tokens 1 (at_level Primary z); level = 0 }) (f (sym (not_here value_step a) ∙ h)) ∙ sym (not_here (val_step false) a);
    bin = λ op a b f g h.
        let p = and_parts (value_known sight a) (value_known sight b) (sym (bin_here value_step op a b) ∙ h) in
        bin_here (val_step true) op a b ∙ two (binary op) _ _ _ _ (f p.0) (g p.1) ∙ sym (bin_here (val_step false) op a b);
    shift = λ left a by f h.
        let p = and_parts _ (value_known sight a) (sym (shift_here value_step left a by) ∙ h) in
        shift_here (val_step true) left a by ∙ ap {B = ValExtent} (λ z. record { extent = and_tokens 2 (at_level Shifted z); level = 3 }) (f p.1) ∙ sym (shift_here (val_step false) left a by);
  }

  same_value : (v : Val) → SameValue v
  same_value v = every_val SameValue val_cases v

-- ---- Statements

abbrev SameStmt : Stmt → Type 0
SameStmt s = (sight : Known) → sight.prelude ≡ false → stmt_known s sight ≡ true → stmt_shape true s ≡ stmt_shape false s

same_bodies : (sight : Known) (off : sight.prelude ≡ false) (body : List Stmt) → Each SameStmt body → all_at sight (map stmt_known body) ≡ true → map (stmt_shape true) body ≡ map (stmt_shape false) body
same_bodies sight off [] each h = refl
same_bodies sight off (s ∷ body) each h =
    let p = and_parts (stmt_known s sight) (all_at sight (map stmt_known body)) h in
    two (λ x xs. x ∷ xs) _ _ _ _ (each.0 sight off p.0) (same_bodies sight off body each.1 p.1)

stmt_cases : StmtCases SameStmt
stmt_cases = record {
  loop = λ iter low rel high body each sight off h.
      let p = and_parts (for_known sight iter low rel high) (all_at (and_iterator sight iter) (map stmt_known body)) (sym (ap (λ f. f sight) (for_here known.stmt_step iter low rel high body)) ∙ h) in
      let q = and_parts (is_new sight true iter) _ p.0 in
      let r = and_parts (is_bound rel) _ q.1 in
      let t = and_parts (ix_known sight low) (ix_known sight high) r.1 in
      for_here (stmt_step true) iter low rel high body
      ∙ ap (λ z. worded (closed (all_behind (both (both (line 5 z) (line 2 (whole true high))) (line 3 nothing)) (map (stmt_shape true) body)))) (same_whole sight off low t.0)
      ∙ ap (λ z. worded (closed (all_behind (both (both (line 5 (whole false low)) (line 2 z)) (line 3 nothing)) (map (stmt_shape true) body)))) (same_whole sight off high t.1)
      ∙ ap (λ z. worded (closed (all_behind (for_head false low high) z))) (same_bodies (and_iterator sight iter) off body each p.1)
      ∙ sym (for_here (stmt_step false) iter low rel high body);
  test = λ c body other each each' sight off h.
      let p = and_parts (cond_known sight c) (all_at sight (map stmt_known body) && all_at sight (map stmt_known other)) (sym (ap (λ f. f sight) (if_here known.stmt_step c body other)) ∙ h) in
      let q = and_parts (all_at sight (map stmt_known body)) (all_at sight (map stmt_known other)) p.1 in
      if_here (stmt_step true) c body other
      ∙ ap (λ (z : CondExtent). worded (closed (other_behind (all_behind (line 3 z.extent) (map (stmt_shape true) body)) (map (stmt_shape true) other)))) (same_cond sight off c p.0)
      ∙ ap (λ z. worded (closed (other_behind (all_behind (if_head false c) z) (map (stmt_shape true) other)))) (same_bodies sight off body each q.0)
      ∙ ap (λ z. worded (closed (other_behind (all_behind (if_head false c) (map (stmt_shape false) body)) z))) (same_bodies sight off other each' q.1)
      ∙ sym (if_here (stmt_step false) c body other);
  assign = λ op id subs v sight off h.
      let p = and_parts _ (ixs_known sight subs && value_known sight v) h in
      let q = and_parts (ixs_known sight subs) (value_known sight v) p.1 in
      two (λ x y. line 1 (beside x (at_level Or y))) _ _ _ _ (same_dims sight off (record { tokens = 1; depth = 0 }) subs q.0) (same_value sight off v q.1);
  block = λ ls body each sight off h.
      let p = and_parts (block_known sight ls) (all_at (and_locals sight ls) (map stmt_known body)) (sym (ap (λ f. f sight) (block_here known.stmt_step ls body)) ∙ h) in
      let q = and_parts (sight.prelude || is_none ls) (locals_known sight [] ls) p.0 in
      block_here (stmt_step true) ls body
      ∙ ap (λ z. closed (all_behind z (map (stmt_shape true) body))) (no_locals ls (sym (ap (λ b. b || is_none ls) off) ∙ q.0))
      ∙ ap (λ z. closed (all_behind (block_head false ls) z)) (same_bodies (and_locals sight ls) off body each p.1)
      ∙ sym (block_here (stmt_step false) ls body);
}
  where
    no_locals : (ls : List Local) → is_none ls ≡ true → block_head true ls ≡ block_head false ls
    no_locals [] e = refl
    no_locals (l ∷ ls) e = absurd (false≢true e)

same_stmts : (sight : Known) → sight.prelude ≡ false → (body : List Stmt) → all_at sight (map stmt_known body) ≡ true → map (stmt_shape true) body ≡ map (stmt_shape false) body
same_stmts sight off body h = same_bodies sight off body (every body) h
  where
    every : (xs : List Stmt) → Each SameStmt xs
    every [] = tt
    every (x ∷ xs) = (every_stmt SameStmt stmt_cases x, every xs)

-- ---- Declarations

same_array : (sight : Known) → sight.prelude ≡ false → (role : Role) (es : List Ix) → ixs_known sight es ≡ true → array_extent true role es ≡ array_extent false role es
same_array sight off role [] h = refl
same_array sight off role (e ∷ es) h = same_dims sight off (head_tokens role) (e ∷ es) h

same_param : (sight : Known) → sight.prelude ≡ false → (q : Param) → param_known sight q ≡ true → param_extent true q ≡ param_extent false q
same_param sight off (Number w low high) h = refl
same_param sight off (Array d) h =
    let p = and_parts (is_new sight false d.name) _ h in
    let q = and_parts (not (is_temp d.role)) (extents_known sight d.extents) p.1 in
    same_array sight off d.role d.extents (and_parts (not (is_none d.extents)) (ixs_known sight d.extents) q.1).1

module _ (function : Name) where
  same_params : (before : List Param) (a : Extent) (qs : List Param) → params_known false function before qs ≡ true → params_behind true a qs ≡ params_behind false a qs
  same_params before a [] h = refl
  same_params before a (q ∷ qs) h =
      let p = and_parts (param_known (known_behind false function before []) q) (params_known false function (before ++ q ∷ []) qs) h in
      ap (λ z. params_behind true (and_tokens 1 (beside a z)) qs) (same_param (known_behind false function before []) refl q p.0)
      ∙ same_params (before ++ q ∷ []) (and_tokens 1 (beside a (param_extent false q))) qs p.1

  same_all_params : (qs : List Param) → params_known false function [] qs ≡ true → params_extent true qs ≡ params_extent false qs
  same_all_params [] h = refl
  same_all_params (q ∷ qs) h =
      let p = and_parts (param_known (known_behind false function [] []) q) (params_known false function (q ∷ []) qs) h in
      ap (λ z. params_behind true z qs) (same_param (known_behind false function [] []) refl q p.0) ∙ same_params (q ∷ []) (param_extent false q) qs p.1

  same_temps : (qs : List Param) (before : List Decl) (a : Shape) (ds : List Decl) → temps_known false function qs before ds ≡ true → decls_behind true a ds ≡ decls_behind false a ds
  same_temps qs before a [] h = refl
  same_temps qs before a (d ∷ ds) h =
      let sight = known_behind false function qs before in
      let p = and_parts (temp_known sight d) (temps_known false function qs (before ++ d ∷ []) ds) h in
      let q = and_parts (is_new sight false d.name) _ p.0 in
      let r = and_parts (is_temp d.role) (ixs_known sight d.extents) q.1 in
      ap (λ z. decls_behind true (both a (line 0 z)) ds) (same_dims sight refl (record { tokens = 2; depth = 0 }) d.extents r.1)
      ∙ same_temps qs (before ++ d ∷ []) (both a (line 0 (dims_behind false (record { tokens = 2; depth = 0 }) d.extents))) ds p.1

-- ---- One token more

pub record Near (b a : Shape) : Type 0 where
  pub tokens : b.tokens ≤ a.tokens + 1
  pub run : b.run ≤ a.run + 1
  pub depth : b.depth ≤ a.depth
  pub items : b.items ≤ a.items

near_both : (b a s : Shape) → Near b a → Near (both b s) (both a s)
near_both b a s h =
    let t = h.tokens in let r = h.run in let d = h.depth in let i = h.items in
    let x = larger_is b.run s.run in let y = larger_is a.run s.run in let z = larger_is b.depth s.depth in let w = larger_is a.depth s.depth in
    record { tokens = omega (arith, t); run = omega (arith, r, x, y); depth = omega (arith, d, z, w); items = omega (arith, i) }

near_behind : (b a : Shape) (ss : List Shape) → Near b a → Near (all_behind b ss) (all_behind a ss)
near_behind b a [] h = h
near_behind b a (s ∷ ss) h = near_behind (both b s) (both a s) ss (near_both b a s h)

near_decls : (b a : Shape) (ds : List Decl) → Near b a → Near (decls_behind false b ds) (decls_behind false a ds)
near_decls b a [] h = h
near_decls b a (d ∷ ds) h = let s = line 0 (dims_behind false (record { tokens = 2; depth = 0 }) d.extents) in near_decls (both b s) (both a s) ds (near_both b a s h)

near_closed : (b a : Shape) → Near b a → Near (closed b) (closed a)
near_closed b a h =
    let q = near_both b a (line 0 nothing) h in
    let d = q.depth in
    record { tokens = q.tokens; run = q.run; depth = omega (arith, d); items = q.items }

near_head : (e : Extent) → Near (line 5 e) (line 4 e)
near_head e = record { tokens = omega arith; run = omega arith; depth = omega arith; items = omega arith }

-- ---- The function

-- without the prelude its head has one token less
abbrev pub plain_function : ℕ → Program → Shape
plain_function more p = closed (all_behind (decls_behind false (line more (params_extent false p.params)) p.temps) (map (stmt_shape false) p.body))

-- whose parts are known without the prelude
function_is : (p : Program) → params_known false p.name [] p.params ≡ true → temps_known false p.name p.params [] p.temps ≡ true → all_at (known_behind false p.name p.params p.temps) (map stmt_known p.body) ≡ true
    → function_shape (with_prelude p) ≡ plain_function 5 p
function_is p params temps body =
    let e = params_extent false p.params in
    ap (λ z. closed (all_behind (decls_behind true (line 5 z) p.temps) (map (stmt_shape true) p.body))) (same_all_params p.name p.params params)
    ∙ ap (λ z. closed (all_behind z (map (stmt_shape true) p.body))) (same_temps p.name p.params [] (line 5 e) p.temps temps)
    ∙ ap (λ z. closed (all_behind (decls_behind false (line 5 e) p.temps) z)) (same_stmts (known_behind false p.name p.params p.temps) refl p.body body)

pub prelude_is : (p : Program) → p.prelude ≡ false → program_known p ≡ true → (function_shape (with_prelude p) ≡ plain_function 5 p) × (function_shape p ≡ plain_function 4 p)
prelude_is p off h =
    let a = and_parts (is_function p.name) _ h in
    let b = and_parts (not (is_none p.params)) _ a.1 in
    let c = and_parts (params_known p.prelude p.name [] p.params) _ b.1 in
    let d = and_parts (context_known p) _ c.1 in
    let e = and_parts (temps_known p.prelude p.name p.params [] p.temps) (body_known p) d.1 in
    let params = sym (ap (λ b. params_known b p.name [] p.params) off) ∙ c.0 in
    let temps = sym (ap (λ b. temps_known b p.name p.params [] p.temps) off) ∙ e.0 in
    let body = sym (ap (λ b. all_at (known_behind b p.name p.params p.temps) (map stmt_known p.body)) off) ∙ e.1 in
    (function_is p params temps body, ap (λ b. closed (all_behind (decls_behind b (head_line b p.params) p.temps) (map (stmt_shape b) p.body))) off)

pub prelude_near : (p : Program) → p.prelude ≡ false → program_known p ≡ true → Near (function_shape (with_prelude p)) (function_shape p)
prelude_near p off h =
    let e = params_extent false p.params in
    let q = prelude_is p off h in
    subst (λ z. Near z (function_shape p)) (sym q.0)
    (subst (Near (plain_function 5 p)) (sym q.1) (near_closed _ _ (near_behind _ _ (map (stmt_shape false) p.body) (near_decls (line 5 e) (line 4 e) p.temps (near_head e)))))
