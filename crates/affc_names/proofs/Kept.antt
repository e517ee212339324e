-- A draft that keeps the limits has no number that is cut.
use Rattle.std.proofs.Common.{◌≡◌, ℕ, ◌<◌, ◌-◌, ◌^◌, Bool, true, false, not, ◌&&◌, nat_lt, nat_le, List, [], ◌∷◌, ◌++◌, map, refl, ap, ◌∙◌, arith}
use Rattle.std.specs.Prelude.{ℤ, pos, nat_abs, int_le}
use Rattle.std.specs.List.{flat_map}
use Rattle.std.proofs.lemmas.Bool.{cond-true}
use Rattle.std.proofs.lemmas.Bool.Decides.{nat_tests}
use Rattle.affc_grammar.specs.Draft as d
use Rattle.affc_grammar.specs.Limits.{at_if, literals_past, sides, conds_texts, cond_texts, value_texts, stmts_texts, stmt_texts, pragma_texts, param_texts, affine_texts, conds_past, cond_past, divisors_past, divisors_past_in, is_range, ranges_past}
use Rattle.affc_names.specs.Stored as stored
use Rattle.affc_names.specs.Shifts.{value_shifts, stmts_shift, stmt_shifts}

no_append : {A : Type 0} (xs ys : List A) → xs ++ ys ≡ [] → (xs ≡ []) × (ys ≡ [])
no_append [] ys e = (refl, e)
no_append (x ∷ xs) ys e = absurd (cc)

not_passed : (b : Bool) (at : ℕ) → at_if b at ≡ [] → b ≡ false
not_passed true at e = absurd (cc)
not_passed false at e = refl

small : (limit n : ℕ) → limit < 2 ^ 63 → nat_lt limit n ≡ false → stored.number n ≡ n
small limit n le e = cond-true (nat_lt n (2 ^ 63)) n (2 ^ 63 - 1) (grind (arith, nat_tests))

both : (a b : Bool) → (a && b) ≡ true → (a ≡ true) × (b ≡ true)
both true b h = (refl, h)
both false b h = absurd (cc)

flat-append : (f : d.IxDraft → List ℕ) (xs ys : List d.IxDraft) → flat_map f (xs ++ ys) ≡ [] → (flat_map f xs ≡ []) × (flat_map f ys ≡ [])
flat-append f [] ys e = (refl, e)
flat-append f (x ∷ xs) ys e =
    let p = no_append (f x) (flat_map f (xs ++ ys)) e in
    let q = flat-append f xs ys p.1 in
    (ap (λ l. l ++ flat_map f xs) p.0 ∙ q.0, q.1)

module _ (limit divisor : ℕ) (le : limit < 2 ^ 63) (few : divisor < 2 ^ 63) where
  abbrev Keeps : List d.IxDraft → Type 0
  Keeps xs = flat_map (literals_past limit) xs ≡ []

  ix_kept : (e : d.IxDraft) → literals_past limit e ≡ [] → stored.ix e ≡ e
  ix_kept (d.literal at n) h = ap (d.literal at) (small limit n le (not_passed (nat_lt limit n) at h))
  ix_kept (d.name at w) h = refl
  ix_kept (d.negated at a) h = ap (d.negated at) (ix_kept a h)
  ix_kept (d.sum a b) h = let p = no_append (literals_past limit a) (literals_past limit b) h in λ i. d.sum (ix_kept a p.0 i) (ix_kept b p.1 i)
  ix_kept (d.difference a b) h = let p = no_append (literals_past limit a) (literals_past limit b) h in λ i. d.difference (ix_kept a p.0 i) (ix_kept b p.1 i)
  ix_kept (d.product at a b) h = let p = no_append (literals_past limit a) (literals_past limit b) h in λ i. d.product at (ix_kept a p.0 i) (ix_kept b p.1 i)
  ix_kept (d.grouped at a) h = ap (d.grouped at) (ix_kept a h)
  ix_kept (d.chosen at f a b) h = let p = no_append (literals_past limit a) (literals_past limit b) h in λ i. d.chosen at f (ix_kept a p.0 i) (ix_kept b p.1 i)
  ix_kept (d.divided at f a by_at by) h =
      let p = no_append (literals_past limit a) (at_if (nat_lt limit by) by_at) h in
      λ i. d.divided at f (ix_kept a p.0 i) by_at (small limit by le (not_passed (nat_lt limit by) by_at p.1) i)

  ixs_kept : (es : List d.IxDraft) → Keeps es → map stored.ix es ≡ es
  ixs_kept [] h = refl
  ixs_kept (e ∷ es) h = let p = no_append (literals_past limit e) (flat_map (literals_past limit) es) h in λ i. ix_kept e p.0 i ∷ ixs_kept es p.1 i

  one_kept : (e : d.IxDraft) → Keeps (e ∷ []) → stored.ix e ≡ e
  one_kept e h = ix_kept e (no_append (literals_past limit e) [] h).0

  compare_kept : (c : d.CompareDraft) → Keeps (sides c) → stored.compare c ≡ c
  compare_kept c h =
      let p = no_append (literals_past limit c.left) (flat_map (literals_past limit) (c.right ∷ [])) h in
      λ i. record { rel = c.rel; left = ix_kept c.left p.0 i; right = one_kept c.right p.1 i }

  compares_kept : (cs : List d.CompareDraft) → Keeps (flat_map sides cs) → map stored.compare cs ≡ cs
  compares_kept [] h = refl
  compares_kept (c ∷ cs) h = let p = flat-append (literals_past limit) (sides c) (flat_map sides cs) h in λ i. compare_kept c p.0 i ∷ compares_kept cs p.1 i

  mutual
    conds_kept : (cs : d.CondsDraft) → Keeps (conds_texts cs) → conds_past divisor cs ≡ [] → stored.conds cs ≡ cs
    conds_kept d.no_conds h r = refl
    conds_kept (d.and_cond cs c) h r =
        let p = flat-append (literals_past limit) (conds_texts cs) (cond_texts c) h in
        let q = no_append (conds_past divisor cs) (cond_past divisor c) r in
        λ i. d.and_cond (conds_kept cs p.0 q.0 i) (cond_kept c p.1 q.1 i)

    cond_kept : (c : d.CondDraft) → Keeps (cond_texts c) → cond_past divisor c ≡ [] → stored.cond c ≡ c
    cond_kept (d.comparison c) h r = ap d.comparison (compare_kept c h)
    cond_kept (d.divisible a by_at by so) h r = λ i. d.divisible (one_kept a h i) by_at (small divisor by few (not_passed (nat_lt divisor by) by_at r) i) so
    cond_kept (d.all_of cs) h r = ap d.all_of (conds_kept cs h r)
    cond_kept (d.any_of cs) h r = ap d.any_of (conds_kept cs h r)

  value_kept : (v : d.ValueDraft) → Keeps (value_texts v) → value_shifts v ≡ true → stored.value v ≡ v
  value_kept (d.load at w subs) h s = ap (d.load at w) (ixs_kept subs h)
  value_kept (d.constant n) h s = refl
  value_kept (d.cast a) h s = ap d.cast (one_kept a h)
  value_kept (d.complement v) h s = ap d.complement (value_kept v h s)
  value_kept (d.binary op v w) h s =
      let p = flat-append (literals_past limit) (value_texts v) (value_texts w) h in
      let q = both (value_shifts v) (value_shifts w) s in
      λ i. d.binary op (value_kept v p.0 q.0 i) (value_kept w p.1 q.1 i)
  value_kept (d.shift left v by) h s =
      let q = both (value_shifts v) (nat_lt by 256) s in
      λ i. d.shift left (value_kept v h q.0 i) (cond-true (nat_lt by 256) by 0 q.1 i)

  locals_kept : (ls : List d.LocalDraft) → Keeps (map (λ l. l.value) ls) → map stored.local ls ≡ ls
  locals_kept [] h = refl
  locals_kept (l ∷ ls) h =
      let p = no_append (literals_past limit l.value) (flat_map (literals_past limit) (map (λ k. k.value) ls)) h in
      λ i. record { at = l.at; name = l.name; value = ix_kept l.value p.0 i } ∷ locals_kept ls p.1 i

  mutual
    stmts_kept : (ss : d.StmtsDraft) → Keeps (stmts_texts ss) → divisors_past divisor ss ≡ [] → stmts_shift ss ≡ true → stored.stmts ss ≡ ss
    stmts_kept d.no_stmts h r s = refl
    stmts_kept (d.and_stmt ss x) h r s =
        let p = flat-append (literals_past limit) (stmts_texts ss) (stmt_texts x) h in
        let o = no_append (divisors_past divisor ss) (divisors_past_in divisor x) r in
        let q = both (stmts_shift ss) (stmt_shifts x) s in
        λ i. d.and_stmt (stmts_kept ss p.0 o.0 q.0 i) (stmt_kept x p.1 o.1 q.1 i)

    stmt_kept : (x : d.StmtDraft) → Keeps (stmt_texts x) → divisors_past_in divisor x ≡ [] → stmt_shifts x ≡ true → stored.stmt x ≡ x
    stmt_kept (d.for_loop k body) h r s =
        let p = no_append (literals_past limit k.low) (flat_map (literals_past limit) (k.high ∷ stmts_texts body)) h in
        let q = no_append (literals_past limit k.high) (flat_map (literals_past limit) (stmts_texts body)) p.1 in
        λ i. d.for_loop (record { at = k.at; iterator = k.iterator; low = ix_kept k.low p.0 i; tested = k.tested; rel = k.rel; high = ix_kept k.high q.0 i; stepped = k.stepped }) (stmts_kept body q.1 r s i)
    stmt_kept (d.if_cond at c body other) h r s =
        let p1 = flat-append (literals_past limit) (cond_texts c ++ stmts_texts body) (stmts_texts other) h in
        let p = flat-append (literals_past limit) (cond_texts c) (stmts_texts body) p1.0 in
        let o1 = no_append (cond_past divisor c ++ divisors_past divisor body) (divisors_past divisor other) r in
        let o = no_append (cond_past divisor c) (divisors_past divisor body) o1.0 in
        let q = both (stmts_shift body) (stmts_shift other) s in
        λ i. d.if_cond at (cond_kept c p.0 o.0 i) (stmts_kept body p.1 o.1 q.0 i) (stmts_kept other p1.1 o1.1 q.1 i)
    stmt_kept (d.assign w subs op v) h r s =
        let p = flat-append (literals_past limit) subs (value_texts v) h in
        λ i. d.assign w (ixs_kept subs p.0 i) op (value_kept v p.1 s i)
    stmt_kept (d.block ls body) h r s =
        let p = flat-append (literals_past limit) (map (λ l. l.value) ls) (stmts_texts body) h in
        λ i. d.block (locals_kept ls p.0 i) (stmts_kept body p.1 r s i)

  decl_kept : (k : d.DeclDraft) → Keeps k.extents → stored.decl k ≡ k
  decl_kept k h = λ i. record { word = k.word; role = k.role; extents = ixs_kept k.extents h i }

  decls_kept : (ds : List d.DeclDraft) → Keeps (flat_map (λ k. k.extents) ds) → map stored.decl ds ≡ ds
  decls_kept [] h = refl
  decls_kept (k ∷ ds) h = let p = flat-append (literals_past limit) k.extents (flat_map (λ x. x.extents) ds) h in λ i. decl_kept k p.0 i ∷ decls_kept ds p.1 i

  params_kept : (qs : List d.ParamDraft) → Keeps (flat_map param_texts qs) → map stored.param qs ≡ qs
  params_kept [] h = refl
  params_kept (d.number_param w ∷ qs) h = ap (λ l. d.number_param w ∷ l) (params_kept qs h)
  params_kept (d.array_param k ∷ qs) h = let p = flat-append (literals_past limit) k.extents (flat_map param_texts qs) h in λ i. d.array_param (decl_kept k p.0 i) ∷ params_kept qs p.1 i

  bound_kept : (z : ℤ) → nat_le (nat_abs z) (2 ^ 24) ≡ true → stored.bound z ≡ z
  bound_kept z h = cond-true (nat_lt (nat_abs z) (2 ^ 63)) z (pos 0) (grind (arith, nat_tests))

  range_kept : (b : Bool) (at : ℕ) → at_if (not b) at ≡ [] → b ≡ true
  range_kept true at e = refl
  range_kept false at e = absurd (cc)

  pragmas_kept : (ps : List d.PragmaDraft) → Keeps (flat_map pragma_texts ps) → ranges_past ps ≡ [] → map stored.pragma ps ≡ ps
  pragmas_kept [] h r = refl
  pragmas_kept (d.range w low_at low high ∷ ps) h r =
      let p = no_append (at_if (not (is_range low high)) low_at) (ranges_past ps) r in
      let q = both (int_le low high && nat_le (nat_abs low) (2 ^ 24)) (nat_le (nat_abs high) (2 ^ 24)) (range_kept (is_range low high) low_at p.0) in
      let l = both (int_le low high) (nat_le (nat_abs low) (2 ^ 24)) q.0 in
      λ i. d.range w low_at (bound_kept low l.1 i) (bound_kept high q.1 i) ∷ pragmas_kept ps h p.1 i
  pragmas_kept (d.context at cs ∷ ps) h r =
      let p = flat-append (literals_past limit) (flat_map sides cs) (flat_map pragma_texts ps) h in
      λ i. d.context at (compares_kept cs p.0 i) ∷ pragmas_kept ps p.1 r i

  pub text_kept : (c : d.TextDraft) → flat_map (literals_past limit) (affine_texts c) ≡ [] → ranges_past c.pragmas ≡ [] → divisors_past divisor c.body ≡ [] → stmts_shift c.body ≡ true → stored.text c ≡ c
  text_kept c h r o s =
      let body = flat-append (literals_past limit) ((flat_map pragma_texts c.pragmas ++ flat_map param_texts c.params) ++ flat_map (λ k. k.extents) c.temps) (stmts_texts c.body) h in
      let temps = flat-append (literals_past limit) (flat_map pragma_texts c.pragmas ++ flat_map param_texts c.params) (flat_map (λ k. k.extents) c.temps) body.0 in
      let front = flat-append (literals_past limit) (flat_map pragma_texts c.pragmas) (flat_map param_texts c.params) temps.0 in
      λ i. record { pragmas = pragmas_kept c.pragmas front.0 r i; has_prelude = c.has_prelude; function = c.function; params = params_kept c.params front.1 i; temps = decls_kept c.temps temps.1 i; body = stmts_kept c.body body.1 o s i }
