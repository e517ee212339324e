-- What a draft lists one behind the other, as statements and conditions that are joined: how large it is, and the tree of it.
use Rattle.std.proofs.Common.{◌≡◌, ℕ, suc, ◌+◌, ◌<◌, ◌≤◌, List, [], ◌∷◌, ◌++◌, length, get_or, take, drop, map, Ok, Err, sym, ap, ◌∙◌, arith}
use Rattle.std.proofs.lemmas.List.{map-append}
use Rattle.affc_grammar.specs.Names.{Checked, Refusal, ◌>>=◌}
use Rattle.affc_names.specs.declared.fault.NameFault.{NameFault}
use Rattle.affc_names.specs.declared.fault.NameFault.TheVariants.{Memory, Refused}
use Rattle.affc_names.specs.Gives.{Fails}
use Rattle.affc_names.proofs.Each.{taken, whole}

-- `after` puts a list behind a draft, one by one, and `none` is the draft of nothing
module _ {C S D : Type 0} (view : C → S) (none : D) (and_one : D → S → D) (after : D → List S → D) (ends : (d : D) → after d [] ≡ d) (goes : (d : D) (x : S) (xs : List S) → after d (x ∷ xs) ≡ after (and_one d x) xs) where
  after-append : (d : D) (xs ys : List S) → after d (xs ++ ys) ≡ after (after d xs) ys
  after-append d [] ys = ap (λ e. after e ys) (sym (ends d))
  after-append d (x ∷ xs) ys = goes d x (xs ++ ys) ∙ after-append (and_one d x) xs ys ∙ ap (λ e. after e ys) (sym (goes d x xs))

  -- split at one of a list
  split_at : (cs : List C) (i : ℕ) (c : C) → i < length cs → c ≡ get_or cs i c → after none (map view cs) ≡ after (and_one (after none (map view (take i cs))) (view c)) (map view (drop (suc i) cs))
  split_at cs i c lt is =
      ap (λ l. after none (map view l)) (whole cs i c lt is)
      ∙ ap (after none) (map-append view (take i cs) (c ∷ drop (suc i) cs))
      ∙ after-append none (map view (take i cs)) (view c ∷ map view (drop (suc i) cs))
      ∙ goes (after none (map view (take i cs))) (view c) (map view (drop (suc i) cs))

  one_more : (cs : List C) (i : ℕ) (c : C) → i < length cs → c ≡ get_or cs i c → after none (map view (take (i + 1) cs)) ≡ and_one (after none (map view (take i cs))) (view c)
  one_more cs i c lt is =
      ap (λ l. after none (map view l)) (taken cs i c lt is)
      ∙ ap (after none) (map-append view (take i cs) (c ∷ []))
      ∙ after-append none (map view (take i cs)) (view c ∷ [])
      ∙ goes (after none (map view (take i cs))) (view c) []
      ∙ ends (and_one (after none (map view (take i cs))) (view c))

  module _ (sizes : D → ℕ) (size : S → ℕ) (grows : (d : D) (x : S) → sizes (and_one d x) ≡ sizes d + size x) where
    no_smaller : (d : D) (xs : List S) → sizes d ≤ sizes (after d xs)
    no_smaller d [] = let e : sizes (after d []) ≡ sizes d = ap sizes (ends d) in omega (arith, e)
    no_smaller d (x ∷ xs) =
        let h = no_smaller (and_one d x) xs in
        let g = grows d x in
        let e : sizes (after d (x ∷ xs)) ≡ sizes (after (and_one d x) xs) = ap sizes (goes d x xs) in
        omega (arith, h, g, e)

    -- each of a list is at most as large as all
    pub no_larger : (cs : List C) (i : ℕ) (c : C) → i < length cs → c ≡ get_or cs i c → size (view c) ≤ sizes (after none (map view cs))
    no_larger cs i c lt is =
        let before = after none (map view (take i cs)) in
        let all : sizes (after none (map view cs)) ≡ sizes (after (and_one before (view c)) (map view (drop (suc i) cs))) = ap sizes (split_at cs i c lt is) in
        let h = no_smaller (and_one before (view c)) (map view (drop (suc i) cs)) in
        let g = grows before (view c) in
        omega (arith, all, h, g)

  module _ {T : Type 0} (tree : D → Checked (List T)) (tree_of : S → Checked T) (law : (d : D) (x : S) → tree (and_one d x) ≡ tree d >>= (λ ts. tree_of x >>= (λ t. Ok (ts ++ t ∷ [])))) where
    pub turn : (cs : List C) (i : ℕ) (c : C) (done : List T) (t : T) → i < length cs → c ≡ get_or cs i c → tree (after none (map view (take i cs))) ≡ Ok done → tree_of (view c) ≡ Ok t
        → tree (after none (map view (take (i + 1) cs))) ≡ Ok (done ++ t ∷ [])
    turn cs i c done t lt is before here =
        ap tree (one_more cs i c lt is)
        ∙ law (after none (map view (take i cs))) (view c)
        ∙ ap (λ m. m >>= (λ ts. tree_of (view c) >>= (λ x. Ok (ts ++ x ∷ [])))) before
        ∙ ap (λ m. m >>= (λ x. Ok (done ++ x ∷ []))) here

    fails_after : (d : D) (xs : List S) (r : Refusal) → tree d ≡ Err r → tree (after d xs) ≡ Err r
    fails_after d [] r e = ap tree (ends d) ∙ e
    fails_after d (x ∷ xs) r e = ap tree (goes d x xs) ∙ fails_after (and_one d x) xs r (law d x ∙ ap (λ m. m >>= (λ ts. tree_of x >>= (λ t. Ok (ts ++ t ∷ [])))) e)

    pub stops : (cs : List C) (i : ℕ) (c : C) (done : List T) (fault : NameFault) → i < length cs → c ≡ get_or cs i c → tree (after none (map view (take i cs))) ≡ Ok done → Fails fault (tree_of (view c))
        → Fails fault (tree (after none (map view cs)))
    stops cs i c done Memory lt is before here = tt
    stops cs i c done (Refused at why) lt is before here =
        let d = after none (map view (take i cs)) in
        ap tree (split_at cs i c lt is)
        ∙ fails_after (and_one d (view c)) (map view (drop (suc i) cs)) _
        (law d (view c)
        ∙ ap (λ m. m >>= (λ ts. tree_of (view c) >>= (λ x. Ok (ts ++ x ∷ [])))) before
        ∙ ap (λ m. m >>= (λ x. Ok (done ++ x ∷ []))) here)
