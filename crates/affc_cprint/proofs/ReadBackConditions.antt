-- Conditions of an `if` that are read are printed as ones that are read so, and whose tokens a text can have. What is joined by one mark is written without
-- brackets beside this mark only where it is the list itself; so the list reads as it, and not as a part of another.
use Rattle.std.proofs.Common.{◌≡◌, ℕ, ◌+◌, ◌^◌, ◌<◌, ◌≤◌, nat_le, Bool, true, false, List, [], ◌∷◌, ◌++◌, map, length, codes, Option, Some, None, is_some, Ok, pos, IsTrue, refl, sym, ap, subst, ◌∙◌, arith, append_assoc, length-append}
use Rattle.std.proofs.lemmas.List.{append-nil}
use Rattle.std.proofs.lemmas.Bool.{false≢true}
use Rattle.std.specs.Fmt.{decimal as digits_of}
use Rattle.affc_lex.specs.Bytes.{decimal as value_of}
use Rattle.affc_ast.specs.declared.tree.Ix.{Ix}
use Rattle.affc_ast.specs.declared.tree.Rel.{Rel}
use Rattle.affc_ast.specs.declared.tree.Cond.{Cond}
use Rattle.affc_ast.specs.declared.tree.Cond.TheVariants as tree
use Rattle.affc_ast.specs.declared.tree.Cond.TheOpen as layer
use Rattle.affc_ast.specs.declared.tree.Cond.TheOpen.{Cond-F}
use Rattle.affc_ast.specs.Recursion.{by_ix, by_cond}
use Rattle.affc_ast.proofs.Steps.{all_here, any_here}
use Rattle.affc_grammar.specs.Grammar.{Digits, number as number_symbol, mark, rel_mark, zero_mark, is_divisor, CondText, all_of, or_all, AllText, prim, and_prim, PrimText, enclosed, compared, divisible, ix_symbols, term_symbols, cond_symbols, all_symbols, prim_symbols}
use Rattle.affc_grammar.specs.Draft as draft
use Rattle.affc_grammar.specs.Draft.{CondsDraft, CondDraft, and_conds, alone, conjuncts, disjuncts, ix_draft, term_draft, cond_draft, all_draft, prim_draft}
use Rattle.affc_grammar.specs.Names.{Scope, ix_tree, conds_tree, cond_tree}
use Rattle.affc_grammar.specs.Printed.{Names, ix_step, ix_text, CondWritten, prim_written, all_written, any_written, and_prims, or_alls, divisible_by, cond_step, holding}
use Rattle.affc_cprint.proofs.Numbers.{value_of-decimal, divisor_of}
use Rattle.affc_cprint.proofs.Places.{some_held}
use Rattle.affc_cprint.proofs.Spelled.{AllHave, AllStand, have_parts, stand_both, IsNumeral, symbol_of_numeral, decimal_is_numeral}
use Rattle.affc_cprint.proofs.Sees.{ok_of, both_ok, then_is, Sees}
use Rattle.affc_cprint.proofs.ReadBack.{in_parentheses, number_of_symbol, IsBack, ix_back, term_back}
use Rattle.affc_cprint.proofs.ReadBackValues.{Each, each_append}

-- ---- Drafts that are joined, and their trees

module _ (scope : Scope) where
  pub conds_split : (cs ds : CondsDraft) (xs : List Cond) → conds_tree scope (and_conds cs ds) ≡ Ok xs → (ys : List Cond) × (zs : List Cond) × (conds_tree scope cs ≡ Ok ys) × (conds_tree scope ds ≡ Ok zs)
  conds_split cs draft.no_conds xs e = (xs, [], e, refl)
  conds_split cs (draft.and_cond ds d) xs e =
      let p = both_ok (conds_tree scope (and_conds cs ds)) _ xs e in
      let q = both_ok (cond_tree scope d) _ xs p.2 in
      let r = conds_split cs ds p.0 p.1 in
      (r.0, r.1 ++ q.0 ∷ [], r.2, then_is (conds_tree scope ds) _ r.1 _ r.3 (then_is (cond_tree scope d) _ q.0 _ q.1 refl))

  pub conds_join : (cs ds : CondsDraft) (ys zs : List Cond) → conds_tree scope cs ≡ Ok ys → conds_tree scope ds ≡ Ok zs → conds_tree scope (and_conds cs ds) ≡ Ok (ys ++ zs)
  conds_join cs draft.no_conds ys zs p q = p ∙ ap (λ l. Ok l) (sym (append-nil ys) ∙ ap (λ l. ys ++ l) (ok_of q))
  conds_join cs (draft.and_cond ds d) ys zs p q =
      let a = both_ok (conds_tree scope ds) _ zs q in
      let b = both_ok (cond_tree scope d) _ zs a.2 in
      then_is (conds_tree scope (and_conds cs ds)) _ (ys ++ a.0) _ (conds_join cs ds ys a.0 p a.1)
      (then_is (cond_tree scope d) _ b.0 _ b.1 (ap (λ l. Ok l) (append_assoc ys a.0 (b.0 ∷ []) ∙ ap (λ l. ys ++ l) (ok_of b.2))))

  one_tree : (d : CondDraft) (xs : List Cond) → conds_tree scope (alone d) ≡ Ok xs → (x : Cond) × (cond_tree scope d ≡ Ok x)
  one_tree d xs e = let p = both_ok (cond_tree scope d) _ xs e in (p.0, p.1)

  alone_tree : (d : CondDraft) (x : Cond) → cond_tree scope d ≡ Ok x → conds_tree scope (alone d) ≡ Ok (x ∷ [])
  alone_tree d x e = then_is (cond_tree scope d) _ x _ e refl

  pub conjuncts_tree : (d : CondDraft) (xs : List Cond) → conds_tree scope (conjuncts d) ≡ Ok xs → (x : Cond) × (cond_tree scope d ≡ Ok x)
  conjuncts_tree (draft.comparison c) xs e = one_tree (draft.comparison c) xs e
  conjuncts_tree (draft.divisible a by_at by so) xs e = one_tree (draft.divisible a by_at by so) xs e
  conjuncts_tree (draft.all_of cs) xs e = (tree.All xs, then_is (conds_tree scope cs) _ xs _ e refl)
  conjuncts_tree (draft.any_of cs) xs e = one_tree (draft.any_of cs) xs e

  pub disjuncts_tree : (d : CondDraft) (xs : List Cond) → conds_tree scope (disjuncts d) ≡ Ok xs → (x : Cond) × (cond_tree scope d ≡ Ok x)
  disjuncts_tree (draft.comparison c) xs e = one_tree (draft.comparison c) xs e
  disjuncts_tree (draft.divisible a by_at by so) xs e = one_tree (draft.divisible a by_at by so) xs e
  disjuncts_tree (draft.all_of cs) xs e = one_tree (draft.all_of cs) xs e
  disjuncts_tree (draft.any_of cs) xs e = (tree.Any xs, then_is (conds_tree scope cs) _ xs _ e refl)

-- ---- Conditions that are joined

abbrev pub all_step : Cond-F Bool → Bool
all_step (layer.All bs) = true
all_step _ = false

abbrev pub is_all : Cond → Bool
is_all x = by_cond all_step x

abbrev pub any_step : Cond-F Bool → Bool
any_step (layer.Any bs) = true
any_step _ = false

abbrev pub is_any : Cond → Bool
is_any x = by_cond any_step x

module _ (scope : Scope) where
  pub conjunct_part : (d : CondDraft) (x : Cond) → cond_tree scope d ≡ Ok x → is_all x ≡ false → conds_tree scope (conjuncts d) ≡ Ok (x ∷ [])
  conjunct_part (draft.comparison c) x e h = alone_tree scope (draft.comparison c) x e
  conjunct_part (draft.divisible a by_at by so) x e h = alone_tree scope (draft.divisible a by_at by so) x e
  conjunct_part (draft.any_of cs) x e h = alone_tree scope (draft.any_of cs) x e
  conjunct_part (draft.all_of cs) x e h = let p = both_ok (conds_tree scope cs) _ x e in absurd (false≢true (sym h ∙ ap is_all (sym (ok_of p.2)) ∙ all_here all_step p.0))

  pub disjunct_part : (d : CondDraft) (x : Cond) → cond_tree scope d ≡ Ok x → is_any x ≡ false → conds_tree scope (disjuncts d) ≡ Ok (x ∷ [])
  disjunct_part (draft.comparison c) x e h = alone_tree scope (draft.comparison c) x e
  disjunct_part (draft.divisible a by_at by so) x e h = alone_tree scope (draft.divisible a by_at by so) x e
  disjunct_part (draft.all_of cs) x e h = alone_tree scope (draft.all_of cs) x e
  disjunct_part (draft.any_of cs) x e h = let p = both_ok (conds_tree scope cs) _ x e in absurd (false≢true (sym h ∙ ap is_any (sym (ok_of p.2)) ∙ any_here any_step p.0))

-- ---- Places

-- what is written for the condition reads as it, at every place
pub record CondBack {prelude : Bool} (scope : Scope) (w : CondWritten prelude) (x : Cond) : Type 0 where
  pub whole : (at : ℕ) → cond_tree scope (cond_draft at w.whole) ≡ Ok x
  pub in_any : (at : ℕ) → cond_tree scope (all_draft at w.in_any) ≡ Ok x
  pub in_all : (at : ℕ) → cond_tree scope (prim_draft at w.in_all) ≡ Ok x
  pub whole_stands : AllStand (cond_symbols w.whole)
  pub in_any_stands : AllStand (all_symbols w.in_any)
  pub in_all_stands : AllStand (prim_symbols w.in_all)

prim_back : {prelude : Bool} (scope : Scope) (t : PrimText prelude true) (x : Cond) → ((at : ℕ) → cond_tree scope (prim_draft at t) ≡ Ok x) → AllStand (prim_symbols t) → CondBack scope (prim_written t) x
prim_back scope t x h s = record { whole = h; in_any = h; in_all = h; whole_stands = s; in_any_stands = s; in_all_stands = s }

all_back : {prelude : Bool} (scope : Scope) (t : AllText prelude true) (x : Cond) → ((at : ℕ) → cond_tree scope (all_draft at t) ≡ Ok x) → AllStand (all_symbols t) → CondBack scope (all_written t) x
all_back scope t x h s = record { whole = h; in_any = h; in_all = λ at. h (at + 1); whole_stands = s; in_any_stands = s; in_all_stands = in_parentheses (all_symbols t) s }

any_back : {prelude : Bool} (scope : Scope) (t : CondText prelude true) (x : Cond) → ((at : ℕ) → cond_tree scope (cond_draft at t) ≡ Ok x) → AllStand (cond_symbols t) → CondBack scope (any_written t) x
any_back scope t x h s =
    let inside = in_parentheses (cond_symbols t) s in
    record { whole = h; in_any = λ at. h (at + 1); in_all = λ at. h (at + 1); whole_stands = s; in_any_stands = inside; in_all_stands = inside }

-- a text that is joined by "&&" reads as these
record AllRead {prelude : Bool} (scope : Scope) (t : AllText prelude true) (xs : List Cond) : Type 0 where
  joined : (at : ℕ) → (cs : CondsDraft) × (all_draft at t ≡ draft.all_of cs) × (conds_tree scope cs ≡ Ok xs)
  stands : AllStand (all_symbols t)

-- and one that is joined by "||"
record AnyRead {prelude : Bool} (scope : Scope) (t : CondText prelude true) (xs : List Cond) : Type 0 where
  joined : (at : ℕ) → (cs : CondsDraft) × (cond_draft at t ≡ draft.any_of cs) × (conds_tree scope cs ≡ Ok xs)
  stands : AllStand (cond_symbols t)

-- ---- Conditions

module _ (prelude : Bool) (scope : Scope) (names : Names) where
  abbrev printed_cond : Cond → CondWritten prelude
  printed_cond x = by_cond (cond_step prelude names) x

  abbrev pub IsCondBack : Cond → Type 0
  IsCondBack x = CondBack scope (printed_cond x) x

  abbrev pub IsConjunct : Cond → Type 0
  IsConjunct x = IsCondBack x × (is_all x ≡ false)

  abbrev pub IsDisjunct : Cond → Type 0
  IsDisjunct x = IsCondBack x × (is_any x ≡ false)

  all_two : (x y : Cond) → IsConjunct x → IsConjunct y → AllRead scope (and_prim (prim (printed_cond x).in_all) (printed_cond y).in_all) (x ∷ y ∷ [])
  all_two x y p q =
      let v = printed_cond x in
      let w = printed_cond y in
      record {
        joined = λ at.
            let a = prim_draft at v.in_all in
            let b = prim_draft (at + length (prim_symbols v.in_all) + 1) w.in_all in
            (and_conds (conjuncts a) (conjuncts b), refl, conds_join scope (conjuncts a) (conjuncts b) (x ∷ []) (y ∷ []) (conjunct_part scope a x (p.0.in_all _) p.1) (conjunct_part scope b y (q.0.in_all _) q.1));
        stands = stand_both (prim_symbols v.in_all) (mark (codes "&&") ∷ prim_symbols w.in_all) p.0.in_all_stands q.0.in_all_stands;
      }

  all_more : (t : AllText prelude true) (ys zs : List Cond) → AllRead scope t ys → Each IsConjunct zs → AllRead scope (and_prims t (map printed_cond zs)) (ys ++ zs)
  all_more t ys [] r b = subst (AllRead scope t) (sym (append-nil ys)) r
  all_more t ys (z ∷ zs) r b =
      let w = printed_cond z in
      let more : AllRead scope (and_prim t w.in_all) (ys ++ z ∷ []) = record {
        joined = λ at.
            let before = r.joined at in
            let d = prim_draft (at + length (all_symbols t) + 1) w.in_all in
            (and_conds before.0 (conjuncts d), ap (λ c. draft.all_of (and_conds (conjuncts c) (conjuncts d))) before.1, conds_join scope before.0 (conjuncts d) ys (z ∷ []) before.2 (conjunct_part scope d z (b.0.0.in_all _) b.0.1));
        stands = stand_both (all_symbols t) (mark (codes "&&") ∷ prim_symbols w.in_all) r.stands b.0.0.in_all_stands;
      } in
      subst (AllRead scope (and_prims (and_prim t w.in_all) (map printed_cond zs))) (append_assoc ys (z ∷ []) zs) (all_more (and_prim t w.in_all) (ys ++ z ∷ []) zs more b.1)

  pub all_again : (xs : List Cond) → 2 ≤ length xs → Each IsConjunct xs → IsCondBack (tree.All xs)
  all_again [] some b = absurd (omega arith)
  all_again (x ∷ []) some b = absurd (omega arith)
  all_again (x ∷ y ∷ zs) some b =
      let t = and_prim (prim (printed_cond x).in_all) (printed_cond y).in_all in
      let r = all_more t (x ∷ y ∷ []) zs (all_two x y b.0 b.1.0) b.1.1 in
      subst (λ w. CondBack scope w (tree.All (x ∷ y ∷ zs))) (sym (all_here (cond_step prelude names) (x ∷ y ∷ zs)))
      (all_back scope (and_prims t (map printed_cond zs)) (tree.All (x ∷ y ∷ zs)) (λ at. let j = r.joined at in ap (cond_tree scope) j.1 ∙ then_is (conds_tree scope j.0) _ (x ∷ y ∷ zs) _ j.2 refl) r.stands)

  any_two : (x y : Cond) → IsDisjunct x → IsDisjunct y → AnyRead scope (or_all refl (all_of (printed_cond x).in_any) (printed_cond y).in_any) (x ∷ y ∷ [])
  any_two x y p q =
      let v = printed_cond x in
      let w = printed_cond y in
      record {
        joined = λ at.
            let a = all_draft at v.in_any in
            let b = all_draft (at + length (all_symbols v.in_any) + 1) w.in_any in
            (and_conds (disjuncts a) (disjuncts b), refl, conds_join scope (disjuncts a) (disjuncts b) (x ∷ []) (y ∷ []) (disjunct_part scope a x (p.0.in_any _) p.1) (disjunct_part scope b y (q.0.in_any _) q.1));
        stands = stand_both (all_symbols v.in_any) (mark (codes "||") ∷ all_symbols w.in_any) p.0.in_any_stands q.0.in_any_stands;
      }

  any_more : (t : CondText prelude true) (ys zs : List Cond) → AnyRead scope t ys → Each IsDisjunct zs → AnyRead scope (or_alls t (map printed_cond zs)) (ys ++ zs)
  any_more t ys [] r b = subst (AnyRead scope t) (sym (append-nil ys)) r
  any_more t ys (z ∷ zs) r b =
      let w = printed_cond z in
      let more : AnyRead scope (or_all refl t w.in_any) (ys ++ z ∷ []) = record {
        joined = λ at.
            let before = r.joined at in
            let d = all_draft (at + length (cond_symbols t) + 1) w.in_any in
            (and_conds before.0 (disjuncts d), ap (λ c. draft.any_of (and_conds (disjuncts c) (disjuncts d))) before.1, conds_join scope before.0 (disjuncts d) ys (z ∷ []) before.2 (disjunct_part scope d z (b.0.0.in_any _) b.0.1));
        stands = stand_both (cond_symbols t) (mark (codes "||") ∷ all_symbols w.in_any) r.stands b.0.0.in_any_stands;
      } in
      subst (AnyRead scope (or_alls (or_all refl t w.in_any) (map printed_cond zs))) (append_assoc ys (z ∷ []) zs) (any_more (or_all refl t w.in_any) (ys ++ z ∷ []) zs more b.1)

  pub any_again : (xs : List Cond) → 2 ≤ length xs → Each IsDisjunct xs → IsCondBack (tree.Any xs)
  any_again [] some b = absurd (omega arith)
  any_again (x ∷ []) some b = absurd (omega arith)
  any_again (x ∷ y ∷ zs) some b =
      let t = or_all refl (all_of (printed_cond x).in_any) (printed_cond y).in_any in
      let r = any_more t (x ∷ y ∷ []) zs (any_two x y b.0 b.1.0) b.1.1 in
      subst (λ w. CondBack scope w (tree.Any (x ∷ y ∷ zs))) (sym (any_here (cond_step prelude names) (x ∷ y ∷ zs)))
      (any_back scope (or_alls t (map printed_cond zs)) (tree.Any (x ∷ y ∷ zs)) (λ at. let j = r.joined at in ap (cond_tree scope) j.1 ∙ then_is (conds_tree scope j.0) _ (x ∷ y ∷ zs) _ j.2 refl) r.stands)

  module _ (sees : Sees scope names) where
    pub compare_again : (rel : Rel) (left right : Ix) → IsBack prelude scope names sees left → IsBack prelude scope names sees right → IsCondBack (tree.Compare rel left right)
    compare_again rel left right l r =
        let lt = ix_text prelude names left in
        let rt = ix_text prelude names right in
        prim_back scope (compared lt rel refl rt) (tree.Compare rel left right) (λ at. then_is (ix_tree scope (ix_draft at lt)) _ left _ (l.whole at) (then_is (ix_tree scope (ix_draft (at + length (ix_symbols lt) + 1) rt)) _ right _ (r.whole _) refl))
        (stand_both (ix_symbols lt) (mark (rel_mark rel) ∷ ix_symbols rt) l.whole_stands r.whole_stands)

    pub divides_again : (value : Ix) (n : ℕ) (so : Bool) → n < 2 ^ 64 → nat_le 1 n ≡ true → IsBack prelude scope names sees value → IsCondBack (tree.Divides value (pos n) so)
    divides_again value n so small some b = of_held (digits_of n) (value_of-decimal n small) (decimal_is_numeral n small) (holding (is_divisor (digits_of n))) (some_held (is_divisor (digits_of n)) (divisor_of n small ∙ some))
      where
        of_held : (ds : Digits) → value_of ds ≡ n → IsNumeral ds → (o : Option (IsTrue (is_divisor ds))) → is_some o ≡ true
            → CondBack scope (divisible_by (by_ix (ix_step prelude names) value).right_of_sum ds o so) (tree.Divides value (pos n) so)
        of_held ds same numeral (Some d) s =
            let t = (by_ix (ix_step prelude names) value).right_of_sum in
            prim_back scope (divisible refl t ds d so) (tree.Divides value (pos n) so) (λ at. then_is (ix_tree scope (term_draft at t)) _ value _ (b.right_of_sum at) (ap (λ m. Ok (tree.Divides value (pos m) so)) same))
            (stand_both (term_symbols t) (mark (codes "%") ∷ number_symbol ds ∷ mark (zero_mark so) ∷ number_symbol (codes "0") ∷ []) b.right_of_sum_stands (symbol_of_numeral ds (mark (zero_mark so) ∷ number_symbol (codes "0") ∷ []) numeral refl))
        of_held ds same numeral None s = absurd (cc)

  -- ---- What a text is read as

  -- the condition of a draft, and the conditions that it joins, by each of the two marks
  record Said (d : CondDraft) (x : Cond) : Type 0 where
    back : IsCondBack x
    conjunction : (xs : List Cond) × (conds_tree scope (conjuncts d) ≡ Ok xs) × (1 ≤ length xs) × Each IsConjunct xs
    disjunction : (xs : List Cond) × (conds_tree scope (disjuncts d) ≡ Ok xs) × (1 ≤ length xs) × Each IsDisjunct xs

  said_alone : (d : CondDraft) (x : Cond) → cond_tree scope d ≡ Ok x → is_all x ≡ false → is_any x ≡ false → IsCondBack x → Said d x
  said_alone d x e all any b = record {
    back = b;
    conjunction = (x ∷ [], conjunct_part scope d x e all, omega arith, ((b, all), tt));
    disjunction = (x ∷ [], disjunct_part scope d x e any, omega arith, ((b, any), tt));
  }

  said_all : (cs : CondsDraft) (x : Cond) → cond_tree scope (draft.all_of cs) ≡ Ok x → (xs : List Cond) → conds_tree scope cs ≡ Ok xs → 2 ≤ length xs → Each IsConjunct xs → Said (draft.all_of cs) x
  said_all cs x e xs f some b =
      let is : tree.All xs ≡ x = ok_of (sym (then_is (conds_tree scope cs) _ xs _ f refl) ∙ e) in
      let back : IsCondBack x = subst IsCondBack is (all_again xs some b) in
      let apart : is_any x ≡ false = ap is_any (sym is) ∙ all_here any_step xs in
      record { back = back; conjunction = (xs, f, omega (arith, some), b); disjunction = (x ∷ [], disjunct_part scope (draft.all_of cs) x e apart, omega arith, ((back, apart), tt)) }

  said_any : (cs : CondsDraft) (x : Cond) → cond_tree scope (draft.any_of cs) ≡ Ok x → (xs : List Cond) → conds_tree scope cs ≡ Ok xs → 2 ≤ length xs → Each IsDisjunct xs → Said (draft.any_of cs) x
  said_any cs x e xs f some b =
      let is : tree.Any xs ≡ x = ok_of (sym (then_is (conds_tree scope cs) _ xs _ f refl) ∙ e) in
      let back : IsCondBack x = subst IsCondBack is (any_again xs some b) in
      let apart : is_all x ≡ false = ap is_all (sym is) ∙ any_here all_step xs in
      record { back = back; conjunction = (x ∷ [], conjunct_part scope (draft.any_of cs) x e apart, omega arith, ((back, apart), tt)); disjunction = (xs, f, omega (arith, some), b) }

  pub two_parts : (xs ys : List Cond) → 1 ≤ length xs → 1 ≤ length ys → 2 ≤ length (xs ++ ys)
  two_parts xs ys p q = omega (arith, p, q, length-append xs ys)

  module _ (sees : Sees scope names) where
    mutual
      cond_said : (c : CondText prelude true) → AllHave (cond_symbols c) → (at : ℕ) (x : Cond) → cond_tree scope (cond_draft at c) ≡ Ok x → Said (cond_draft at c) x
      cond_said (all_of a) have at x e = all_said a have at x e
      cond_said (or_all on c a) have at x e =
          let h = have_parts (cond_symbols c) (mark (codes "||") ∷ all_symbols a) have in
          let next = at + length (cond_symbols c) + 1 in
          let left = disjuncts (cond_draft at c) in
          let right = disjuncts (all_draft next a) in
          let p = both_ok (conds_tree scope (and_conds left right)) _ x e in
          let s = conds_split scope left right p.0 p.1 in
          let l = disjuncts_tree scope (cond_draft at c) s.0 s.2 in
          let r = disjuncts_tree scope (all_draft next a) s.1 s.3 in
          let u = (cond_said c h.0 at l.0 l.1).disjunction in
          let v = (all_said a h.1 next r.0 r.1).disjunction in
          said_any (and_conds left right) x e (u.0 ++ v.0) (conds_join scope left right u.0 v.0 u.1 v.1) (two_parts u.0 v.0 u.2 v.2) (each_append IsDisjunct u.0 v.0 u.3 v.3)

      all_said : (c : AllText prelude true) → AllHave (all_symbols c) → (at : ℕ) (x : Cond) → cond_tree scope (all_draft at c) ≡ Ok x → Said (all_draft at c) x
      all_said (prim q) have at x e = prim_said q have at x e
      all_said (and_prim a q) have at x e =
          let h = have_parts (all_symbols a) (mark (codes "&&") ∷ prim_symbols q) have in
          let next = at + length (all_symbols a) + 1 in
          let left = conjuncts (all_draft at a) in
          let right = conjuncts (prim_draft next q) in
          let p = both_ok (conds_tree scope (and_conds left right)) _ x e in
          let s = conds_split scope left right p.0 p.1 in
          let l = conjuncts_tree scope (all_draft at a) s.0 s.2 in
          let r = conjuncts_tree scope (prim_draft next q) s.1 s.3 in
          let u = (all_said a h.0 at l.0 l.1).conjunction in
          let v = (prim_said q h.1 next r.0 r.1).conjunction in
          said_all (and_conds left right) x e (u.0 ++ v.0) (conds_join scope left right u.0 v.0 u.1 v.1) (two_parts u.0 v.0 u.2 v.2) (each_append IsConjunct u.0 v.0 u.3 v.3)

      prim_said : (c : PrimText prelude true) → AllHave (prim_symbols c) → (at : ℕ) (x : Cond) → cond_tree scope (prim_draft at c) ≡ Ok x → Said (prim_draft at c) x
      prim_said (enclosed c) have at x e = cond_said c (have_parts (cond_symbols c) (mark (codes ")") ∷ []) have).0 (at + 1) x e
      prim_said (compared a rel on b) have at x e =
          let s = have_parts (ix_symbols a) (mark (rel_mark rel) ∷ ix_symbols b) have in
          let p = both_ok (ix_tree scope (ix_draft at a)) _ x e in
          let q = both_ok (ix_tree scope (ix_draft (at + length (ix_symbols a) + 1) b)) _ x p.2 in
          let is : tree.Compare rel p.0 q.0 ≡ x = ok_of q.2 in
          said_alone (prim_draft {wide = true} at (compared a rel on b)) x e (ap is_all (sym is)) (ap is_any (sym is))
          (subst IsCondBack is (compare_again sees rel p.0 q.0 (ix_back prelude scope names sees a s.0 at p.0 p.1) (ix_back prelude scope names sees b s.1 _ q.0 q.1)))
      prim_said (divisible on t by some so) have at x e =
          let s = have_parts (term_symbols t) (mark (codes "%") ∷ number_symbol by ∷ mark (zero_mark so) ∷ number_symbol (codes "0") ∷ []) have in
          let n = number_of_symbol by (mark (zero_mark so) ∷ number_symbol (codes "0") ∷ []) s.1 in
          let p = both_ok (ix_tree scope (term_draft at t)) _ x e in
          let is : tree.Divides p.0 (pos (value_of by)) so ≡ x = ok_of p.2 in
          said_alone (prim_draft {wide = true} at (divisible on t by some so)) x e (ap is_all (sym is)) (ap is_any (sym is))
          (subst IsCondBack is (divides_again sees p.0 (value_of by) so n.0 some (term_back prelude scope names sees t s.0 at p.0 p.1)))

    pub cond_back : (c : CondText prelude true) → AllHave (cond_symbols c) → (at : ℕ) (x : Cond) → cond_tree scope (cond_draft at c) ≡ Ok x → IsCondBack x
    cond_back c have at x e = (cond_said c have at x e).back
