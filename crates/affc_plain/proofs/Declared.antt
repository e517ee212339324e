-- Parameters and temporaries: the numbers that are visible behind them, their extents and their ranges.
use Rattle.std.proofs.Common.{◌≡◌, ℕ, suc, ◌+◌, ◌^◌, ℤ, pos, Bool, true, false, List, [], ◌∷◌, length, flat_map, Option, Some, None, Ok, refl, sym, ap, subst, ◌∙◌, arith}
use Rattle.std.specs.Prelude.{filter, not, ◌&&◌, nat_lt, nat_le, nat_abs, int_le, if◌then◌else◌}
use Rattle.std.proofs.lemmas.Bool.{false≢true}
use Rattle.affc_lex.specs.Bytes.{same}
use Rattle.affc_lex.proofs.Lists.{same_is}
use Rattle.affc_ast.specs.declared.tree.Decl.{Decl}
use Rattle.affc_ast.specs.declared.tree.Ix.{Ix}
use Rattle.affc_ast.specs.declared.tree.Ix.TheVariants as ix
use Rattle.affc_ast.specs.declared.tree.NameId.{NameId}
use Rattle.affc_ast.specs.declared.tree.Param.{Param}
use Rattle.affc_ast.specs.declared.tree.Param.TheVariants.{Number, Array}
use Rattle.affc_ast.specs.Meaning.{arrays_of}
use Rattle.affc_grammar.specs.declared.fault.NameWhy.TheVariants.{Reserved}
use Rattle.affc_grammar.specs.Grammar.{Name}
use Rattle.affc_grammar.specs.Draft.{IxDraft, literal, name, negated, sum, difference, product, grouped, chosen, divided, DeclDraft, ParamDraft, number_param, array_param, PragmaDraft, range, context}
use Rattle.affc_grammar.specs.Names.{Thing, number, Scope, Checked, ◌>>=◌, allowed, first_reason, each, is_time_name, why_number, why_declared, number_id, number_named, thing_of, with_thing, with_number, with_array, with_params, ix_tree, choice_tree, rounding_tree, decl_tree, param_tree, params_tree, temps_tree, number_tree, range_of}
use Rattle.affc_ast.specs.Names.{is_reserved}
use Rattle.affc_grammar.specs.Limits.{at_if, param_texts, number_words, param_decls, is_range, ranges_past}
use Rattle.affc_domain.specs.Ranges.{number_ranges}
use Rattle.affc_trace.proofs.Members.{both_hold, hold_both}
use Rattle.affc_domain.specs.Plain.{all_plain, plain_decls, plain_range, plain_ranges}
use Rattle.affc_plain.proofs.Lists.{filter_none, no_append, is_not}
use Rattle.affc_plain.proofs.Forms.{then_ok, not_placed}
use Rattle.affc_plain.proofs.Small.{HasNumbers, number_is, at_most}
use Rattle.affc_plain.proofs.Scopes.{Counts, thing_with, is_new, with_new_number, with_new_array}
use Rattle.affc_plain.proofs.Expressions.{AllFine, fine_parts, ok_of, allowed_ok, each_length, list_plain}
use Rattle.affc_plain.proofs.FromGrammar.{extents_of}

-- what stands for a number still stands for it
pub record Extends (scope big : Scope) : Type 0 where
  pub prelude : big.has_prelude ≡ scope.has_prelude
  pub things : (v : Name) (id : ℕ) (it : Bool) → thing_of scope v ≡ Some (number id it) → thing_of big v ≡ Some (number id it)

extends_self : (scope : Scope) → Extends scope scope
extends_self scope = record { prelude = refl; things = λ v id it e. e }

extends_on : (a b c : Scope) → Extends a b → Extends b c → Extends a c
extends_on a b c h k = record { prelude = k.prelude ∙ h.prelude; things = λ v id it e. k.things v id it (h.things v id it e) }

no_number : (t : Thing) → ◌≡◌ {A = Option Thing} None (Some t) → ⊥
no_number t e = cc

extends_new : (scope : Scope) (w : Name) (thing : Thing) → thing_of scope w ≡ None → Extends scope (with_thing scope w thing)
extends_new scope w thing new = record { prelude = refl; things = λ v id it e. by v id it (same w v) refl e }
  where
    by : (v : Name) (id : ℕ) (it : Bool) (t : Bool) → same w v ≡ t → thing_of scope v ≡ Some (number id it) → thing_of (with_thing scope w thing) v ≡ Some (number id it)
    by v id it true k e = absurd (no_number (number id it) (sym new ∙ ap (thing_of scope) (same_is w v k) ∙ e))
    by v id it false k e = thing_with scope w v thing false k ∙ e

abbrev with_prelude : (at : ℕ) → Name → NameId → Bool → Bool → Checked NameId
with_prelude at v id it p = allowed (first_reason ((is_reserved v && not (it && p && is_time_name v), Reserved) ∷ [])) at (Ok (record { 0 = id.0 }))

module _ (scope big : Scope) (ext : Extends scope big) where
  named_grows : (at : ℕ) (v : Name) (id : NameId) → number_named scope at v ≡ Ok id → number_named big at v ≡ Ok id
  named_grows at v id e =
      let r = number_is scope at v id e in
      let here : number_named scope at v ≡ with_prelude at v id r.0 scope.has_prelude = ap (λ t. allowed (why_number scope v t) at (Ok (number_id t))) r.1 in
      let there : number_named big at v ≡ with_prelude at v id r.0 big.has_prelude = ap (λ t. allowed (why_number big v t) at (Ok (number_id t))) (ext.things v id.0 r.0 r.1) in
      there ∙ ap (with_prelude at v id r.0) ext.prelude ∙ sym here ∙ e

  ix_grows : (d : IxDraft) (e : Ix) → ix_tree scope d ≡ Ok e → ix_tree big d ≡ Ok e
  ix_grows (literal at n) e t = t
  ix_grows (name at w) e t =
      let r = then_ok (number_named scope at w) _ e t in
      ap (λ q. q >>= (λ id. Ok (ix.Name id))) (named_grows at w r.0 r.1) ∙ r.2
  ix_grows (negated at a) e t =
      let r = then_ok (ix_tree scope a) _ e t in
      ap (λ q. q >>= (λ x. Ok (ix.Neg x))) (ix_grows a r.0 r.1) ∙ r.2
  ix_grows (sum a b) e t =
      let r = then_ok (ix_tree scope a) _ e t in
      let q = then_ok (ix_tree scope b) _ e r.2 in
      ap (λ q. q >>= (λ x. ix_tree big b >>= (λ y. Ok (ix.Add x y)))) (ix_grows a r.0 r.1) ∙ ap (λ q. q >>= (λ y. Ok (ix.Add r.0 y))) (ix_grows b q.0 q.1) ∙ q.2
  ix_grows (difference a b) e t =
      let r = then_ok (ix_tree scope a) _ e t in
      let q = then_ok (ix_tree scope b) _ e r.2 in
      ap (λ q. q >>= (λ x. ix_tree big b >>= (λ y. Ok (ix.Sub x y)))) (ix_grows a r.0 r.1) ∙ ap (λ q. q >>= (λ y. Ok (ix.Sub r.0 y))) (ix_grows b q.0 q.1) ∙ q.2
  ix_grows (product at a b) e t =
      let r = then_ok (ix_tree scope a) _ e t in
      let q = then_ok (ix_tree scope b) _ e r.2 in
      ap (λ q. q >>= (λ x. ix_tree big b >>= (λ y. Ok (ix.Mul x y)))) (ix_grows a r.0 r.1) ∙ ap (λ q. q >>= (λ y. Ok (ix.Mul r.0 y))) (ix_grows b q.0 q.1) ∙ q.2
  ix_grows (grouped at a) e t = ix_grows a e t
  ix_grows (chosen at f a b) e t =
      let r = then_ok (ix_tree scope a) _ e t in
      let q = then_ok (ix_tree scope b) _ e r.2 in
      ap (λ q. q >>= (λ x. ix_tree big b >>= (λ y. Ok (choice_tree f x y)))) (ix_grows a r.0 r.1) ∙ ap (λ q. q >>= (λ y. Ok (choice_tree f r.0 y))) (ix_grows b q.0 q.1) ∙ q.2
  ix_grows (divided at f a by_at by) e t =
      let r = then_ok (ix_tree scope a) _ e t in
      ap (λ q. q >>= (λ x. Ok (rounding_tree f x (pos by)))) (ix_grows a r.0 r.1) ∙ r.2

  list_grows : (ds : List IxDraft) (es : List Ix) → each (ix_tree scope) ds ≡ Ok es → each (ix_tree big) ds ≡ Ok es
  list_grows [] es t = t
  list_grows (d ∷ ds) es t =
      let r = then_ok (ix_tree scope d) _ es t in
      let q = then_ok (each (ix_tree scope) ds) _ es r.2 in
      ap (λ z. z >>= (λ x. each (ix_tree big) ds >>= (λ xs. Ok (x ∷ xs)))) (ix_grows d r.0 r.1) ∙ ap (λ z. z >>= (λ xs. Ok (r.0 ∷ xs))) (list_grows ds q.0 q.1) ∙ q.2

-- ---- One declaration

-- its name is new, and its extents are read
decl_parts : (scope : Scope) (d : DeclDraft) (x : Decl) → decl_tree scope d ≡ Ok x → (thing_of scope d.word.name ≡ None) × (each (ix_tree scope) d.extents ≡ Ok x.extents)
decl_parts scope d x t =
    let a = allowed_ok (why_declared scope false d.word.name) d.word.at _ x t in
    let r = then_ok (each (ix_tree scope) d.extents) _ x a.1 in
    (is_new scope false d.word.name a.0, r.1 ∙ ap (λ (z : Decl). Ok z.extents) (ok_of r.2))

-- more than four dimensions
abbrev pub is_deep : DeclDraft → Bool
is_deep d = nat_lt 4 (length d.extents)

-- a declaration read in one scope, whose extents are read the same in another
decl_plain : (m : ℕ) (scope : Scope) → HasNumbers scope m → (d : DeclDraft) (es : List Ix) → each (ix_tree scope) d.extents ≡ Ok es → AllFine d.extents → is_deep d ≡ false → (nat_le (length es) 4 && all_plain m es) ≡ true
decl_plain m scope numbers d es t f e =
    hold_both (nat_le (length es) 4) (all_plain m es) (ap (λ k. nat_le k 4) (each_length (ix_tree scope) d.extents es t) ∙ at_most 4 (length d.extents) e) (list_plain scope m numbers d.extents es t f)

and_plain : (a b c : Bool) → (a && b) ≡ true → c ≡ true → (a && (b && c)) ≡ true
and_plain true b c h k = hold_both b c h k
and_plain false b c h k = absurd (false≢true h)

pub temps_plain : (m : ℕ) (scope : Scope) → Counts scope m → (ds : List DeclDraft) (r : List Decl × Scope) → temps_tree scope ds ≡ Ok r → AllFine (flat_map extents_of ds) → filter is_deep ds ≡ [] → Counts r.1 m × (plain_decls m r.0 ≡ true)
temps_plain m scope c [] r t f w = subst (λ (z : List Decl × Scope). Counts z.1 m × (plain_decls m z.0 ≡ true)) (ok_of t) (c, refl)
temps_plain m scope c (d ∷ ds) r t f w =
    let a = then_ok (decl_tree scope d) _ r t in
    let b = then_ok (temps_tree (with_array scope d.word.name d.role (length d.extents)) ds) _ r a.2 in
    let p = decl_parts scope d a.0 a.1 in
    let g = fine_parts d.extents (flat_map extents_of ds) f in
    let o = filter_none is_deep d ds w in
    let others = temps_plain m (with_array scope d.word.name d.role (length d.extents)) (with_new_array scope m d.word.name d.role (length d.extents) c p.0) ds b.0 b.1 g.1 o.1 in
    subst (λ (z : List Decl × Scope). Counts z.1 m × (plain_decls m z.0 ≡ true)) (ok_of b.2)
    (others.0, and_plain (nat_le (length a.0.extents) 4) (all_plain m a.0.extents) (plain_decls m b.0.0) (decl_plain m scope c.numbers d a.0.extents p.1 g.0 o.0) others.1)

-- ---- Parameters

module _ (lines : List PragmaDraft) where
  number_parts : (scope : Scope) (at : ℕ) (w : Name) (o : Option (ℤ × ℤ)) (x : Param) → number_tree at w o ≡ Ok x → (r : ℤ × ℤ) × (o ≡ Some r) × (x ≡ Number w r.0 r.1)
  number_parts scope at w None x t = absurd (cc)
  number_parts scope at w (Some r) x t = (r, refl, sym (ok_of t))

  -- what is behind the parameters
  pub record Behind (scope : Scope) (n : ℕ) (qs : List ParamDraft) (xs : List Param) : Type 0 where
    pub counts : Counts (with_params scope qs) (n + length (number_ranges xs))
    pub extends : Extends scope (with_params scope qs)
    pub words : length (number_words qs) ≡ length (number_ranges xs)

  pub params_behind : (scope : Scope) (n : ℕ) → Counts scope n → (qs : List ParamDraft) (xs : List Param) → params_tree scope lines qs ≡ Ok xs → Behind scope n qs xs
  params_behind scope n c [] xs t = subst (Behind scope n []) (ok_of t) (record { counts = subst (Counts scope) plain c; extends = extends_self scope; words = refl })
    where
      plain : n ≡ n + 0
      plain = omega arith
  params_behind scope n c (number_param w ∷ qs) xs t =
      let a = then_ok (param_tree scope lines (number_param w)) _ xs t in
      let b = then_ok (params_tree (with_number false scope w.name) lines qs) _ xs a.2 in
      let d = allowed_ok (why_declared scope false w.name) w.at _ a.0 a.1 in
      let r = number_parts scope w.at w.name (range_of w.name lines) a.0 d.1 in
      let new = is_new scope false w.name d.0 in
      let rest = params_behind (with_number false scope w.name) (suc n) (with_new_number scope n false w.name c new) qs b.0 b.1 in
      let whole : Number w.name r.0.0 r.0.1 ∷ b.0 ≡ xs = ap (λ x. x ∷ b.0) (sym r.2) ∙ ok_of b.2 in
      let up : suc n + length (number_ranges b.0) ≡ n + suc (length (number_ranges b.0)) = omega arith in
      subst (Behind scope n (number_param w ∷ qs)) whole (record {
        counts = subst (Counts (with_params (with_number false scope w.name) qs)) up rest.counts;
        extends = extends_on scope (with_number false scope w.name) (with_params (with_number false scope w.name) qs) (extends_new scope w.name _ new) rest.extends;
        words = ap suc rest.words;
      })
  params_behind scope n c (array_param d ∷ qs) xs t =
      let a = then_ok (decl_tree scope d >>= (λ decl. Ok (Array decl))) _ xs t in
      let x = then_ok (decl_tree scope d) _ a.0 a.1 in
      let next : Scope = with_array scope d.word.name d.role (length d.extents) in
      let b = then_ok (params_tree next lines qs) _ xs a.2 in
      let p = decl_parts scope d x.0 x.1 in
      let rest = params_behind next n (with_new_array scope n d.word.name d.role (length d.extents) c p.0) qs b.0 b.1 in
      let whole : Array x.0 ∷ b.0 ≡ xs = ap (λ x. x ∷ b.0) (ok_of x.2) ∙ ok_of b.2 in
      subst (Behind scope n (array_param d ∷ qs)) whole (record {
        counts = rest.counts;
        extends = extends_on scope next (with_params next qs) (extends_new scope d.word.name _ p.0) rest.extends;
        words = rest.words;
      })

  pub params_plain : (m : ℕ) (scope : Scope) (n : ℕ) → Counts scope n → (qs : List ParamDraft) (xs : List Param) → params_tree scope lines qs ≡ Ok xs → HasNumbers (with_params scope qs) m → AllFine (flat_map param_texts qs) → filter is_deep (param_decls qs) ≡ [] → plain_decls m (arrays_of xs) ≡ true
  params_plain m scope n c [] xs t h f w = ap (λ xs. plain_decls m (arrays_of xs)) (sym (ok_of t))
  params_plain m scope n c (number_param w ∷ qs) xs t h f o =
      let a = then_ok (param_tree scope lines (number_param w)) _ xs t in
      let b = then_ok (params_tree (with_number false scope w.name) lines qs) _ xs a.2 in
      let d = allowed_ok (why_declared scope false w.name) w.at _ a.0 a.1 in
      let r = number_parts scope w.at w.name (range_of w.name lines) a.0 d.1 in
      let new = is_new scope false w.name d.0 in
      let whole : Number w.name r.0.0 r.0.1 ∷ b.0 ≡ xs = ap (λ x. x ∷ b.0) (sym r.2) ∙ ok_of b.2 in
      ap (λ xs. plain_decls m (arrays_of xs)) (sym whole) ∙ params_plain m (with_number false scope w.name) (suc n) (with_new_number scope n false w.name c new) qs b.0 b.1 h f o
  params_plain m scope n c (array_param d ∷ qs) xs t h f w =
      let o = filter_none is_deep d (param_decls qs) w in
      let a = then_ok (decl_tree scope d >>= (λ decl. Ok (Array decl))) _ xs t in
      let x = then_ok (decl_tree scope d) _ a.0 a.1 in
      let next : Scope = with_array scope d.word.name d.role (length d.extents) in
      let b = then_ok (params_tree next lines qs) _ xs a.2 in
      let p = decl_parts scope d x.0 x.1 in
      let cs = with_new_array scope n d.word.name d.role (length d.extents) c p.0 in
      let rest = params_behind next n cs qs b.0 b.1 in
      let ext = extends_on scope next (with_params next qs) (extends_new scope d.word.name _ p.0) rest.extends in
      let g = fine_parts d.extents (flat_map param_texts qs) f in
      let whole : Array x.0 ∷ b.0 ≡ xs = ap (λ x. x ∷ b.0) (ok_of x.2) ∙ ok_of b.2 in
      ap (λ xs. plain_decls m (arrays_of xs)) (sym whole)
      ∙ and_plain (nat_le (length x.0.extents) 4) (all_plain m x.0.extents) (plain_decls m (arrays_of b.0))
      (decl_plain m (with_params next qs) h d x.0.extents (list_grows scope (with_params next qs) ext d.extents x.0.extents p.1) g.0 o.0)
      (params_plain m next n cs qs b.0 b.1 h g.1 o.1)

range_plain : (low high : ℤ) (at : ℕ) → at_if (not (is_range low high)) at ≡ [] → plain_range (low, high) ≡ true
range_plain low high at e =
    let r = is_not (is_range low high) (not_placed (not (is_range low high)) at e) in
    let a = both_hold (int_le low high && nat_le (nat_abs low) (2 ^ 24)) (nat_le (nat_abs high) (2 ^ 24)) r in
    let b = both_hold (int_le low high) (nat_le (nat_abs low) (2 ^ 24)) a.0 in
    hold_both (int_le low high) _ b.0 (hold_both (nat_le (nat_abs low) (2 ^ 24)) (nat_le (nat_abs high) (2 ^ 24)) b.1 a.1)

pub line_plain : (w : Name) (ps : List PragmaDraft) (r : ℤ × ℤ) → ranges_past ps ≡ [] → range_of w ps ≡ Some r → plain_range r ≡ true
line_plain w [] r e f = absurd (cc)
line_plain w (range v low_at low high ∷ ps) r e f =
    let p = no_append (at_if (not (is_range low high)) low_at) (ranges_past ps) e in
    by (same v.name w) (range_plain low high low_at p.0) (line_plain w ps r p.1) f
  where
    by : (t : Bool) → plain_range (low, high) ≡ true → (range_of w ps ≡ Some r → plain_range r ≡ true) → (if t then Some (low, high) else range_of w ps) ≡ Some r → plain_range r ≡ true
    by true h k g = ap (λ (o : Option (ℤ × ℤ)). elim o [ None ↦ true | Some x ↦ plain_range x ]) (sym g) ∙ h
    by false h k g = k g
line_plain w (context at cs ∷ ps) r e f = line_plain w ps r e f

pub ranges_plain : (lines : List PragmaDraft) → ranges_past lines ≡ [] → (scope : Scope) (qs : List ParamDraft) (xs : List Param) → params_tree scope lines qs ≡ Ok xs → plain_ranges (number_ranges xs) ≡ true
ranges_plain lines e scope [] xs t = ap (λ xs. plain_ranges (number_ranges xs)) (sym (ok_of t))
ranges_plain lines e scope (number_param w ∷ qs) xs t =
    let a = then_ok (param_tree scope lines (number_param w)) _ xs t in
    let b = then_ok (params_tree (with_number false scope w.name) lines qs) _ xs a.2 in
    let d = allowed_ok (why_declared scope false w.name) w.at _ a.0 a.1 in
    let r = number_parts lines scope w.at w.name (range_of w.name lines) a.0 d.1 in
    let whole : Number w.name r.0.0 r.0.1 ∷ b.0 ≡ xs = ap (λ x. x ∷ b.0) (sym r.2) ∙ ok_of b.2 in
    ap (λ xs. plain_ranges (number_ranges xs)) (sym whole) ∙ hold_both (plain_range r.0) (plain_ranges (number_ranges b.0)) (line_plain w.name lines r.0 e r.1) (ranges_plain lines e (with_number false scope w.name) qs b.0 b.1)
ranges_plain lines e scope (array_param d ∷ qs) xs t =
    let a = then_ok (decl_tree scope d >>= (λ decl. Ok (Array decl))) _ xs t in
    let x = then_ok (decl_tree scope d) _ a.0 a.1 in
    let b = then_ok (params_tree (with_array scope d.word.name d.role (length d.extents)) lines qs) _ xs a.2 in
    let whole : Array x.0 ∷ b.0 ≡ xs = ap (λ x. x ∷ b.0) (ok_of x.2) ∙ ok_of b.2 in
    ap (λ xs. plain_ranges (number_ranges xs)) (sym whole) ∙ ranges_plain lines e (with_array scope d.word.name d.role (length d.extents)) qs b.0 b.1
