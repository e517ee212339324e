-- Laws of proofs that are looked at in order.
use Rattle.std.proofs.Common.{◌≡◌, ℕ, zero, suc, ◌+◌, ◌<◌, ◌≤◌, List, [], ◌∷◌, ◌++◌, length, map, take, drop, get_or, refl, sym, ap, subst, ◌∙◌, arith, length-drop, append_assoc, ◌-◌}
use Rattle.std.proofs.lemmas.List.{map-append, take-append-drop, take_more}
use Rattle.std.proofs.lemmas.List.Concat.{flat_map-append}
use Rattle.std.specs.List.{flat_map}
use Rattle.affc_rows.specs.Forms.{Affine}
use Rattle.affc_system.specs.Systems.{Rows}
use Rattle.affc_farkas.specs.declared.proof.Proof.{Proof}
use Rattle.affc_products.specs.Products.{choices, product, longest}
use Rattle.affc_products.specs.Blocks.{AreProved, FailsAt}

pub proved_append : (qs rs : List Rows) (ps mid rest : List Proof) → AreProved qs ps mid → AreProved rs mid rest → AreProved (qs ++ rs) ps rest
proved_append [] rs ps mid rest h k = subst (λ m. AreProved rs m rest) h k
proved_append (q ∷ qs) rs [] mid rest h k = absurd h
proved_append (q ∷ qs) rs (p ∷ ps) mid rest h k = (h.0, proved_append qs rs ps mid rest h.1 k)

pub proved_count : (qs : List Rows) (ps rest : List Proof) → AreProved qs ps rest → length ps ≡ length qs + length rest
proved_count [] ps rest h = omega (arith, ap length h)
proved_count (q ∷ qs) [] rest h = absurd h
proved_count (q ∷ qs) (p ∷ ps) rest h = let e = proved_count qs ps rest h.1 in omega (arith, e)

pub fails_append : (qs rs : List Rows) (ps mid : List Proof) (m n : ℕ) → AreProved qs ps mid → FailsAt rs mid m → n ≡ length qs + m → FailsAt (qs ++ rs) ps n
fails_append [] rs ps mid m n h k e = let e' : m ≡ n = omega (arith, e) in subst (λ l. FailsAt rs l n) h (subst (FailsAt rs mid) e' k)
fails_append (q ∷ qs) rs [] mid m n h k e = absurd h
fails_append (q ∷ qs) rs (p ∷ ps) mid m zero h k e = absurd (omega (arith, e))
fails_append (q ∷ qs) rs (p ∷ ps) mid m (suc n) h k e = (h.0, fails_append qs rs ps mid m n h.1 k (omega (arith, e)))

pub fails_early : (qs rs : List Rows) (ps : List Proof) (n : ℕ) → FailsAt qs ps n → FailsAt (qs ++ rs) ps n
fails_early [] rs ps n h = absurd h
fails_early (q ∷ qs) rs [] zero h = h
fails_early (q ∷ qs) rs [] (suc n) h = absurd h
fails_early (q ∷ qs) rs (p ∷ ps) zero h = h
fails_early (q ∷ qs) rs (p ∷ ps) (suc n) h = (h.0, fails_early qs rs ps n h.1)

pub fails_count : (qs : List Rows) (ps : List Proof) (n : ℕ) → FailsAt qs ps n → n ≤ length ps
fails_count [] ps n h = absurd h
fails_count (q ∷ qs) [] zero h = omega arith
fails_count (q ∷ qs) [] (suc n) h = absurd h
fails_count (q ∷ qs) (p ∷ ps) zero h = omega arith
fails_count (q ∷ qs) (p ∷ ps) (suc n) h = let e = fails_count qs ps n h.1 in omega (arith, e)

-- ---- A list of questions for each of several items

flat_one : {X Y : Type 0} (g : X → List Y) (x : X) → flat_map g (x ∷ []) ≡ g x
flat_one {X} {Y} g x = append_none (g x)
  where
    append_none : (qs : List Y) → qs ++ [] ≡ qs
    append_none [] = refl
    append_none (q ∷ qs) = ap (λ l. q ∷ l) (append_none qs)

pub flat_more : {X Y : Type 0} (g : X → List Y) (xs : List X) (i : ℕ) (d : X) → i < length xs → flat_map g (take (i + 1) xs) ≡ flat_map g (take i xs) ++ g (get_or xs i d)
flat_more g xs i d l =
    ap (flat_map g) (take_more xs i d l) ∙ flat_map-append g (take i xs) (get_or xs i d ∷ []) ∙ ap (λ r. flat_map g (take i xs) ++ r) (flat_one g (get_or xs i d))

pub flat_rest : {X : Type 0} (g : X → List Rows) (xs : List X) (i : ℕ) → flat_map g xs ≡ flat_map g (take i xs) ++ flat_map g (drop i xs)
flat_rest g xs i = ap (flat_map g) (sym (take-append-drop i xs)) ∙ flat_map-append g (take i xs) (drop i xs)

pub proved_more : {X : Type 0} (g : X → List Rows) (xs : List X) (i : ℕ) (d : X) (ps mid rest : List Proof) → i < length xs
    → AreProved (flat_map g (take i xs)) ps mid → AreProved (g (get_or xs i d)) mid rest → AreProved (flat_map g (take (i + 1) xs)) ps rest
proved_more g xs i d ps mid rest l h k =
    subst (λ qs. AreProved qs ps rest) (sym (flat_more g xs i d l)) (proved_append (flat_map g (take i xs)) (g (get_or xs i d)) ps mid rest h k)

pub fails_inside : {X : Type 0} (g : X → List Rows) (xs : List X) (i : ℕ) (d : X) (ps mid : List Proof) (m n : ℕ) → i < length xs
    → AreProved (flat_map g (take i xs)) ps mid → FailsAt (g (get_or xs i d)) mid m → n + length mid ≡ length ps + m → FailsAt (flat_map g xs) ps n
fails_inside g xs i d ps mid m n l h k e =
    let before = flat_map g (take i xs) in
    let c = proved_count before ps mid h in
    let f = fails_append before (g (get_or xs i d)) ps mid m n h k (omega (arith, c, e)) in
    let f' = subst (λ qs. FailsAt qs ps n) (sym (flat_more g xs i d l)) f in
    subst (λ qs. FailsAt qs ps n) (sym (flat_rest g xs (i + 1))) (fails_early (flat_map g (take (i + 1) xs)) (flat_map g (drop (i + 1) xs)) ps n f')

-- the questions of a product, for each alternative of its first factor in turn
question : ℕ → List Affine → List Affine → Rows
question columns front rows = record { columns = columns; rows = front ++ rows }

mapped : (columns : ℕ) (front u : List Affine) (vs : List (List Affine)) → map (question columns front) (map (λ v. u ++ v) vs) ≡ map (question columns (front ++ u)) vs
unfolding question
mapped columns front u [] = refl
mapped columns front u (v ∷ vs) =
    let e : question columns front (u ++ v) ≡ question columns (front ++ u) v =
    let a : front ++ (u ++ v) ≡ (front ++ u) ++ v = sym (append_assoc front u v) in ap (λ (rows : List Affine). let q : Rows = record { columns = columns; rows = rows } in q) a in
    ap (λ q. q ∷ map (question columns front) (map (λ v. u ++ v) vs)) e ∙ ap (λ l. question columns (front ++ u) v ∷ l) (mapped columns front u vs)

flat : (columns : ℕ) (front : List Affine) (f : List (List Affine)) (fs : List (List (List Affine))) → map (question columns front) (choices (f ∷ fs)) ≡ flat_map (λ u. map (question columns (front ++ u)) (choices fs)) f
flat columns front [] fs = refl
flat columns front (u ∷ us) fs =
    let first = map (λ v. u ++ v) (choices fs) in
    let others = flat_map (λ w. map (λ v. w ++ v) (choices fs)) us in
    map-append (question columns front) first others ∙ ap (λ l. l ++ map (question columns front) others) (mapped columns front u (choices fs))
    ∙ ap (λ l. map (question columns (front ++ u)) (choices fs) ++ l) (flat columns front us fs)

pub product_flat : (columns : ℕ) (front : List Affine) (f : List (List Affine)) (fs : List (List (List Affine))) → product columns front (f ∷ fs) ≡ flat_map (λ u. product columns (front ++ u) fs) f
unfolding question
product_flat columns front f fs = flat columns front f fs

pub longest_at : (f : List (List Affine)) (i : ℕ) (d : List Affine) → i < length f → length (get_or f i d) ≤ longest f
longest_at [] i d l = absurd (omega arith)
longest_at (u ∷ us) zero d l = omega arith
longest_at (u ∷ us) (suc i) d l = let h = longest_at us i d (omega arith) in omega (arith, h)

-- ---- The alternatives of a factor in turn, behind rows that were chosen

pub fits_behind : (chosen base : List Affine) (f : List (List Affine)) (i : ℕ) (u v : List Affine) (t n : ℕ) → chosen ≡ base → i < length f → u ≡ get_or f i u → v ≡ u → length base + (longest f + t) ≤ n
    → length chosen + (length v + t) ≤ n
fits_behind chosen base f i u v t n e l a b r =
    omega (arith, ap length e, ap length b, ap length a, longest_at f i u l, r)

pub step_passed : (columns : ℕ) (chosen base : List Affine) (f : List (List Affine)) (fs : List (List (List Affine))) (i : ℕ) (u v : List Affine) (ps left rest : List Proof)
    → chosen ≡ base → i < length f → u ≡ get_or f i u → v ≡ u
    → AreProved (flat_map (λ w. product columns (base ++ w) fs) (take i f)) ps left → AreProved (product columns (chosen ++ v) fs) left rest
    → AreProved (flat_map (λ w. product columns (base ++ w) fs) (take (i + 1) f)) ps rest
step_passed columns chosen base f fs i u v ps left rest e l a b h k =
    let x : chosen ++ v ≡ base ++ get_or f i u = cc in
    proved_more (λ w. product columns (base ++ w) fs) f i u ps left rest l h (subst (λ rows. AreProved (product columns rows fs) left rest) x k)

pub step_failed : (columns : ℕ) (chosen base : List Affine) (f : List (List Affine)) (fs : List (List (List Affine))) (i : ℕ) (u v : List Affine) (ps left : List Proof) (m n : ℕ)
    → chosen ≡ base → i < length f → u ≡ get_or f i u → v ≡ u
    → AreProved (flat_map (λ w. product columns (base ++ w) fs) (take i f)) ps left → FailsAt (product columns (chosen ++ v) fs) left m → n + length left ≡ length ps + m
    → FailsAt (product columns base (f ∷ fs)) ps n
step_failed columns chosen base f fs i u v ps left m n e l a b h k c =
    let x : chosen ++ v ≡ base ++ get_or f i u = cc in
    let g = fails_inside (λ w. product columns (base ++ w) fs) f i u ps left m n l h (subst (λ rows. FailsAt (product columns rows fs) left m) x k) c in
    subst (λ qs. FailsAt qs ps n) (sym (product_flat columns base f fs)) g

whole_taken : (f : List (List Affine)) (i : ℕ) → length f ≤ i → take i f ≡ f
whole_taken [] zero l = refl
whole_taken [] (suc i) l = refl
whole_taken (u ∷ us) zero l = absurd (omega arith)
whole_taken (u ∷ us) (suc i) l = ap (λ r. u ∷ r) (whole_taken us i (omega arith))

pub all_passed : (columns : ℕ) (base : List Affine) (f : List (List Affine)) (fs : List (List (List Affine))) (i : ℕ) (ps left : List Proof)
    → length f ≤ i → AreProved (flat_map (λ w. product columns (base ++ w) fs) (take i f)) ps left → AreProved (product columns base (f ∷ fs)) ps left
all_passed columns base f fs i ps left l h =
    subst (λ qs. AreProved qs ps left) (sym (product_flat columns base f fs))
    (subst (λ t. AreProved (flat_map (λ w. product columns (base ++ w) fs) t) ps left) (whole_taken f i l) h)

pub first_rest : (fs : List (List (List Affine))) (ts f g : List (List Affine)) → 1 ≤ length fs → f ≡ get_or fs 0 f → g ≡ f → g ∷ (drop 1 fs ++ ts ∷ []) ≡ fs ++ ts ∷ []
first_rest [] ts f g l a b = absurd (omega arith)
first_rest (h ∷ fs) ts f g l a b = let e : g ≡ h = b ∙ a in ap (λ x. x ∷ (fs ++ ts ∷ [])) e

factors_taken : (fs : List (List (List Affine))) (i : ℕ) → length fs ≤ i → take i fs ≡ fs
factors_taken [] zero l = refl
factors_taken [] (suc i) l = refl
factors_taken (u ∷ us) zero l = absurd (omega arith)
factors_taken (u ∷ us) (suc i) l = ap (λ r. u ∷ r) (factors_taken us i (omega arith))

-- a factor and those behind it, as a match gives them
pub first_and_later : (fs : List (List (List Affine))) (ts f g : List (List Affine)) → 1 ≤ length fs → f ≡ get_or fs 0 f → g ≡ f → g ∷ (take (length fs - 1) (drop 1 fs) ++ ts ∷ []) ≡ fs ++ ts ∷ []
first_and_later fs ts f g l a b =
    let e : take (length fs - 1) (drop 1 fs) ≡ drop 1 fs = factors_taken (drop 1 fs) (length fs - 1) (omega (arith, length-drop 1 fs)) in
    rw e (first_rest fs ts f g l a b)

-- ---- The questions themselves, behind others

pub added_more : (columns : ℕ) (chosen base : List Affine) (f : List (List Affine)) (fs : List (List (List Affine))) (i : ℕ) (u v : List Affine) (first old new : List Rows)
    → chosen ≡ base → i < length f → u ≡ get_or f i u → v ≡ u
    → old ≡ first ++ flat_map (λ w. product columns (base ++ w) fs) (take i f) → new ≡ old ++ product columns (chosen ++ v) fs
    → new ≡ first ++ flat_map (λ w. product columns (base ++ w) fs) (take (i + 1) f)
added_more columns chosen base f fs i u v first old new e l a b h k =
    let x : chosen ++ v ≡ base ++ get_or f i u = cc in
    let here = product columns (base ++ get_or f i u) fs in
    let before = flat_map (λ w. product columns (base ++ w) fs) (take i f) in
    k ∙ ap (λ rows. old ++ product columns rows fs) x ∙ ap (λ o. o ++ here) h ∙ append_assoc first before here
    ∙ ap (λ m. first ++ m) (sym (flat_more (λ w. product columns (base ++ w) fs) f i u l))

pub all_added : (columns : ℕ) (base : List Affine) (f : List (List Affine)) (fs : List (List (List Affine))) (i : ℕ) (first out : List Rows)
    → length f ≤ i → out ≡ first ++ flat_map (λ w. product columns (base ++ w) fs) (take i f) → out ≡ first ++ product columns base (f ∷ fs)
all_added columns base f fs i first out l h =
    h ∙ ap (λ t. first ++ flat_map (λ w. product columns (base ++ w) fs) t) (whole_taken f i l) ∙ ap (λ m. first ++ m) (sym (product_flat columns base f fs))
