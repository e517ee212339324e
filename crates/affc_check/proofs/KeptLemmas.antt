-- Marks beside the clash systems of one leaf.
use Rattle.std.proofs.Common.{◌≡◌, ℕ, zero, suc, ℤ, pos, negsuc, if◌then◌else◌, List, [], ◌∷◌, length, map, Option, None, Some, sym, ap, subst, refl, ◌∙◌}
use Rattle.std.specs.Prelude.{int_lt, slice_get}
use Rattle.std.specs.List.{All}
use Rattle.std.proofs.lemmas.Option.{same_Some}
use Rattle.affc_rows.specs.Forms.{Affine, value, values_of}
use Rattle.affc_system.specs.declared.pairs.PairSystem.{PairSystem}
use Rattle.affc_basis.specs.declared.fold.Mark.{Mark}
use Rattle.affc_basis.specs.declared.fold.Mark.TheVariants.{Least}
use Rattle.affc_nest.specs.Questions.{whole_context}
use Rattle.affc_nest.specs.declared.nest.Nest.{Nest}
use Rattle.affc_conflicts.specs.Questions.{distance, greater_question}
use Rattle.affc_certvalue.specs.Limits.{IsWord}
use Rattle.affc_certvalue.specs.declared.fold.fold.CertLeast.{CertLeast}
use Rattle.affc_life.specs.Clashes.{Clash, clash_of}
use Rattle.affc_life.specs.declared.clash.ClashProduct.{ClashProduct}
use Rattle.affc_check.specs.Made.{AreWordsAt, IsPairFit, IsMarkFit, MarkFits}
use Rattle.affc_certvalue.specs.fold.Limits.{IsPairWithin}
use Rattle.affc_check.specs.declared.walks.Sought.{Sought}
use Rattle.affc_check.specs.Walked.{IsNumberIn, StandsFor, IsNumbered, IsSamePair, IsSame}
use Rattle.affc_check.specs.declared.fold_looks.Kept.{Kept}
use Rattle.affc_check.specs.list.ByClash.{clash_at}
use Rattle.affc_check.specs.list.Certs.{least_said}
use Rattle.affc_check.specs.list.Items.{Question, Shown, numbered, pair_item, mark_items, elements_at, pair_of, mark_of}
use Rattle.affc_check.specs.list.Walks.{clash_systems}
use Rattle.affc_check.proofs.list.FoldLemmas.{pair_by, pair_is}

-- ---- What is kept

pub keeps_pair : (l : CertLeast) (sought : Sought) (kept : Kept) (own : CertLeast) (number n : ℤ) (point at : List ℤ) → kept.least ≡ Some own → own.p ≡ l.p → own.pair ≡ Some (n, at) → at ≡ point → l.pair ≡ Some (number, point)
    → IsNumbered sought kept.products.items n → (cs : List Clash) → StandsFor (Some l) sought cs → IsSame cs l kept
keeps_pair l sought kept own number n point at is p pair same said h cs s =
    let placed = h.placed cs number (s number (subst (λ o. IsNumberIn o number) (sym said) refl)) in
    record {
      own = own;
      is = is;
      p = p;
      pair = subst (λ o. IsSamePair cs o kept.products.items own.pair) (sym said) (n, pair ∙ ap (λ q. Some (n, q)) same, placed.same);
      within = λ k w. record {
        each = ap length p ∙ w.each;
        words = subst (All IsWord) (sym p) w.words;
        pair = subst IsPairWithin (sym pair) (h.word, subst (All IsWord) (sym same) ((subst IsPairWithin said w.pair).1));
      };
      among = placed.among;
    }

-- ---- What a certificate shows

module _ (nest : Nest) (rows : List Affine) (k : ℕ) (row b : Affine) (cs : List Clash) (ss : List PairSystem) (are : map clash_of ss ≡ cs) where
  same_pair_item : (p : List ℤ) (o own : Option (ℤ × List ℤ)) (ps : List ClashProduct) → IsSamePair cs o ps own → pair_item nest rows k row b (clash_systems ps) p own ≡ pair_item nest rows k row b ss p o
  same_pair_item p None own ps h = ap (pair_item nest rows k row b (clash_systems ps) p) h
  same_pair_item p (Some pair) own ps h =
      ap (pair_item nest rows k row b (clash_systems ps) p) h.1 ∙ pair_is nest rows k row b p pair.1 (clash_systems ps) h.0
      ∙ ap (pair_by nest rows k row b p pair.1) (sym h.2 ∙ ap (λ z. clash_at z pair.0) (sym are)) ∙ sym (pair_is nest rows k row b p pair.1 ss pair.0)

  pub same_mark_items : (l : CertLeast) (kept : Kept) → IsSame cs l kept → mark_items nest rows k row b (clash_systems kept.products.items) (least_said kept.least) ≡ mark_items nest rows k row b ss (least_said (Some l))
  same_mark_items l kept h =
      let own = h.own in
      let all = clash_systems kept.products.items in
      ap (λ o. mark_items nest rows k row b all (least_said o)) h.is
      ∙ ap (λ p. Shown (whole_context nest) p ∷ pair_item nest rows k row b all p own.pair ∷ Question (greater_question nest.context nest.params b p) ∷ []) h.p
      ∙ ap (λ i. Shown (whole_context nest) l.p ∷ i ∷ Question (greater_question nest.context nest.params b l.p) ∷ []) (same_pair_item l.p l.pair own.pair kept.products.items h.pair)

-- ---- The mark that is made

abbrev elements_by : (row : Affine) → (point : List ℤ) → Option Clash → Option (List ℤ × List ℤ)
elements_by row point None = None
elements_by row point (Some c) =
    if int_lt (value (distance row c.x c.y) point) (pos 0) then Some (values_of c.x point, values_of c.y point) else Some (values_of c.y point, values_of c.x point)

elements_are : (row : Affine) (point : List ℤ) (systems : List PairSystem) (n : ℕ) → elements_at row point (slice_get systems n) ≡ elements_by row point (slice_get (map clash_of systems) n)
elements_are row point [] n = refl
elements_are row point (s ∷ ss) zero = refl
elements_are row point (s ∷ ss) (suc n) = elements_are row point ss n

elements_is : (row : Affine) (point : List ℤ) (systems : List PairSystem) (z : ℤ) → elements_at row point (numbered systems z) ≡ elements_by row point (clash_at (map clash_of systems) z)
elements_is row point systems (pos n) = elements_are row point systems n
elements_is row point systems (negsuc n) = refl

module _ (row : Affine) (cs : List Clash) (ss : List PairSystem) (are : map clash_of ss ≡ cs) where
  same_pair_of : (o own : Option (ℤ × List ℤ)) (ps : List ClashProduct) → IsSamePair cs o ps own → pair_of (clash_systems ps) row own ≡ pair_of ss row o
  same_pair_of None own ps h = ap (pair_of (clash_systems ps) row) h
  same_pair_of (Some pair) own ps h =
      ap (pair_of (clash_systems ps) row) h.1 ∙ elements_is row pair.1 (clash_systems ps) h.0 ∙ ap (elements_by row pair.1) (sym h.2 ∙ ap (λ z. clash_at z pair.0) (sym are))
      ∙ sym (elements_is row pair.1 ss pair.0)

  pub same_mark_of : (l : CertLeast) (kept : Kept) → IsSame cs l kept → mark_of (clash_systems kept.products.items) row (least_said kept.least) ≡ mark_of ss row (least_said (Some l))
  same_mark_of l kept h =
      let all = clash_systems kept.products.items in
      ap (λ o. mark_of all row (least_said o)) h.is ∙ ap (λ p. the (Least p (pair_of all row h.own.pair))) h.p ∙ ap (λ o. the (Least l.p o)) (same_pair_of l.pair h.own.pair kept.products.items h.pair)
    where
      the : Mark → Mark
      the m = m

-- ---- Its elements

numbered_clash : (systems : List PairSystem) (z : ℤ) (s : PairSystem) → numbered systems z ≡ Some s → clash_at (map clash_of systems) z ≡ Some (clash_of s)
numbered_clash systems (pos n) s e = at systems n e
  where
    at : (xs : List PairSystem) (n : ℕ) → slice_get xs n ≡ Some s → slice_get (map clash_of xs) n ≡ Some (clash_of s)
    at [] n e = absurd (cc)
    at (x ∷ xs) zero e = ap (λ t. Some (clash_of t)) (same_Some x s e)
    at (x ∷ xs) (suc n) e = at xs n e
numbered_clash systems (negsuc n) s e = absurd (cc)

clash_numbered : (systems : List PairSystem) (z : ℤ) (c : Clash) → clash_at (map clash_of systems) z ≡ Some c → (s : PairSystem) × (numbered systems z ≡ Some s) × (clash_of s ≡ c)
clash_numbered systems (pos n) c e = at systems n e
  where
    at : (xs : List PairSystem) (n : ℕ) → slice_get (map clash_of xs) n ≡ Some c → (s : PairSystem) × (slice_get xs n ≡ Some s) × (clash_of s ≡ c)
    at [] n e = absurd (cc)
    at (x ∷ xs) zero e = (x, refl, same_Some (clash_of x) c e)
    at (x ∷ xs) (suc n) e = at xs n e
clash_numbered systems (negsuc n) c e = absurd (cc)

words_same : (s t : PairSystem) (point : List ℤ) → clash_of t ≡ clash_of s → AreWordsAt t point → AreWordsAt s point
words_same s t point e w = record {
  width = w.width ∙ ap (λ (c : Clash). c.system.columns) e;
  first = subst (λ fs. All (λ f. IsWord (value f point)) fs) (ap (λ (c : Clash). c.x) e) w.first;
  second = subst (λ fs. All (λ f. IsWord (value f point)) fs) (ap (λ (c : Clash). c.y) e) w.second;
}

pair_fits : (cs : List Clash) (ts : List PairSystem) → map clash_of ts ≡ cs → (o own : Option (ℤ × List ℤ)) (ps : List ClashProduct) → IsSamePair cs o ps own → IsPairFit ts o → IsPairFit (clash_systems ps) own
pair_fits cs ts are None own ps h fit = subst (IsPairFit (clash_systems ps)) (sym h) tt
pair_fits cs ts are (Some pair) own ps h fit =
    subst (IsPairFit (clash_systems ps)) (sym h.1)
    (λ s e.
    let at : clash_at (map clash_of ts) pair.0 ≡ Some (clash_of s) = ap (λ z. clash_at z pair.0) are ∙ h.2 ∙ numbered_clash (clash_systems ps) h.0 s e in
    let t = clash_numbered ts pair.0 (clash_of s) at in
    words_same s t.0 pair.1 t.2 (fit t.0 t.1))

pub mark_fits : (cs : List Clash) (l : CertLeast) (kept : Kept) → IsSame cs l kept → MarkFits cs (least_said (Some l)) → IsMarkFit (clash_systems kept.products.items) (least_said kept.least)
mark_fits cs l kept h fit = subst (λ o. IsMarkFit (clash_systems kept.products.items) (least_said o)) (sym h.is) (pair_fits cs fit.systems fit.are l.pair h.own.pair kept.products.items h.pair fit.fit)
