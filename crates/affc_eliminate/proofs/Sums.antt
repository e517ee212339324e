-- Sums of multiples of rows, by the rows' weights.
use Rattle.std.proofs.Common.{◌≡◌, cond, eqb, ℕ, zero, suc, ◌+◌, ◌*◌, ◌<◌, ◌≤◌, List, [], ◌∷◌, ◌++◌, length, get_or, ℤ, pos, ◌+ℤ◌, ◌*ℤ◌, neg_ℤ, refl, sym, ap, subst, ◌∙◌, inl, inr, arith}
use Rattle.std.specs.List.{All}
use Rattle.std.proofs.lemmas.Int.{ints}
use Rattle.std.proofs.lemmas.Bool.{cases_lt}
use Rattle.std.proofs.lemmas.Bool.Decides.{nat_tests}
use Rattle.std.proofs.lemmas.List.{length-replicate}
use Rattle.std.proofs.lemmas.List.Elements.{All-head, All-tail}
use lib.IntN.{*ℤ-zero, zero-*ℤ}
use Rattle.affc_rows.specs.Forms.{Affine, HaveColumns}
use Rattle.affc_rows.proofs.IntLemmas.{add-mul, mul-add, mul_assoc, one-mul}
use Rattle.affc_rows.proofs.ValueLemmas.{length-mixed}
use Rattle.affc_farkas.specs.Multiples.{row_at, multiple_sum, entry_of}
use Rattle.affc_farkas.proofs.Entries.{entry_of-mixed, zeros-at}
use Rattle.affc_eliminate.specs.Mixtures.{weight_of, mixed_weight, IsMixture}
use Rattle.affc_eliminate.specs.declared.kept.Kept.{Kept}
use Rattle.affc_eliminate.proofs.Rooms.{mul-neg}
use Rattle.affc_eliminate.proofs.Exactness.{factor_of_zero}

-- ---- Widths

pub row_width : (columns : ℕ) (base : List Affine) (n : ℕ) → HaveColumns columns base → length (row_at columns base n).coefs ≡ columns
row_width columns [] n h = length-replicate columns (pos 0)
row_width columns (f ∷ fs) zero h = All-head (λ g. length g.coefs ≡ columns) f fs h
row_width columns (f ∷ fs) (suc n) h = row_width columns fs n (All-tail (λ g. length g.coefs ≡ columns) f fs h)

pub sum_width : (columns : ℕ) (base : List Affine) (by : List (ℕ × ℕ)) → HaveColumns columns base → length (multiple_sum columns base by).coefs ≡ columns
sum_width columns base [] h = length-replicate columns (pos 0)
sum_width columns base (p ∷ ps) h =
    let w = row_width columns base p.0 h in
    length-mixed (pos p.1) (row_at columns base p.0).coefs (pos 1) (multiple_sum columns base ps).coefs (w ∙ sym (sum_width columns base ps h)) ∙ w

-- ---- Totals by multipliers and by weights

-- the sum of the multiples of numbers
abbrev pub total : List (ℕ × ℕ) → (ℕ → ℤ) → ℤ
total [] e = pos 0
total (p ∷ ps) e = (pos p.1 *ℤ e p.0) +ℤ total ps e

pub sum_entry : (columns : ℕ) (base : List Affine) (by : List (ℕ × ℕ)) (j : ℕ) → HaveColumns columns base → j ≤ columns
    → entry_of (multiple_sum columns base by) j ≡ total by (λ n. entry_of (row_at columns base n) j)
sum_entry columns base [] j h le = zeros-at columns j
sum_entry columns base (p ∷ ps) j h le =
    let w = row_width columns base p.0 h in
    entry_of-mixed (pos p.1) (row_at columns base p.0) (pos 1) (multiple_sum columns base ps) j (w ∙ sym (sum_width columns base ps h)) (subst (λ n. j ≤ n) (sym w) le)
    ∙ ap (λ z. (pos p.1 *ℤ entry_of (row_at columns base p.0) j) +ℤ z) (one-mul (entry_of (multiple_sum columns base ps) j) ∙ sum_entry columns base ps j h le)

-- the sum of the first numbers
abbrev pub upto : ℕ → (ℕ → ℤ) → ℤ
upto zero f = pos 0
upto (suc m) f = upto m f +ℤ f m

pub upto_same : (m : ℕ) (f g : ℕ → ℤ) → ((n : ℕ) → n < m → f n ≡ g n) → upto m f ≡ upto m g
upto_same zero f g h = refl
upto_same (suc m) f g h = ap (λ z. z +ℤ f m) (upto_same m f g (λ n lt. h n (omega arith))) ∙ ap (λ z. upto m g +ℤ z) (h m (omega arith))

crossed : (a b c d : ℤ) → (a +ℤ b) +ℤ (c +ℤ d) ≡ (a +ℤ c) +ℤ (b +ℤ d)
crossed a b c d = omega (arith, ints)

upto_add : (m : ℕ) (f g : ℕ → ℤ) → upto m (λ n. f n +ℤ g n) ≡ upto m f +ℤ upto m g
upto_add zero f g = refl
upto_add (suc m) f g = ap (λ z. z +ℤ (f m +ℤ g m)) (upto_add m f g) ∙ crossed (upto m f) (upto m g) (f m) (g m)

upto_scale : (m : ℕ) (c : ℤ) (f : ℕ → ℤ) → upto m (λ n. c *ℤ f n) ≡ c *ℤ upto m f
upto_scale zero c f = sym (*ℤ-zero c)
upto_scale (suc m) c f = ap (λ z. z +ℤ (c *ℤ f m)) (upto_scale m c f) ∙ sym (mul-add c (upto m f) (f m))

upto_zero : (m : ℕ) (f : ℕ → ℤ) → ((n : ℕ) → n < m → f n ≡ pos 0) → upto m f ≡ pos 0
upto_zero zero f h = refl
upto_zero (suc m) f h = ap (λ z. z +ℤ f m) (upto_zero m f (λ n lt. h n (omega arith))) ∙ ap (λ z. pos 0 +ℤ z) (h m (omega arith))

-- the weight that one multiplier gives the row with a number
abbrev pub single : ℕ → ℕ → ℕ → ℕ
single k w n = cond (eqb k n) w 0

pub single_here : (k w n : ℕ) → k ≡ n → single k w n ≡ w
single_here k w n e = grind (arith, nat_tests)

pub single_apart : (k w n : ℕ) → (k ≡ n → ⊥) → single k w n ≡ 0
single_apart k w n e = grind (arith, nat_tests)

zero_left : (a b : ℤ) → a ≡ pos 0 → a +ℤ b ≡ b
zero_left a b e = omega (arith, ints)

zero_right : (a b : ℤ) → b ≡ pos 0 → a +ℤ b ≡ a
zero_right a b e = omega (arith, ints)

none : (w : ℕ) (e : ℤ) → w ≡ 0 → pos w *ℤ e ≡ pos 0
none w e z = ap (λ v. pos v *ℤ e) z ∙ zero-*ℤ e

upto_single : (m k w : ℕ) (e : ℕ → ℤ) → k < m → upto m (λ n. pos (single k w n) *ℤ e n) ≡ pos w *ℤ e k
upto_single zero k w e lt = absurd (omega arith)
upto_single (suc m) k w e lt = elim (cases_lt k m) [
  | inl h ↦ ap (λ z. z +ℤ (pos (single k w m) *ℤ e m)) (upto_single m k w e h) ∙ zero_right (pos w *ℤ e k) (pos (single k w m) *ℤ e m) (none (single k w m) (e m) (single_apart k w m (λ q. absurd (omega arith))))
  | inr h' ↦ let h : k ≡ m = omega arith in
      zero_left (upto m (λ n. pos (single k w n) *ℤ e n)) (pos (single k w m) *ℤ e m) (upto_zero m (λ n. pos (single k w n) *ℤ e n) (λ n ln. none (single k w n) (e n) (single_apart k w n (λ q. absurd (omega arith)))))
      ∙ ap (λ z. pos z *ℤ e m) (single_here k w m h) ∙ ap (λ z. pos w *ℤ e z) (sym h)
]

pub total_by_weights : (m : ℕ) (e : ℕ → ℤ) (by : List (ℕ × ℕ)) → All (λ p. p.0 < m) by → total by e ≡ upto m (λ n. pos (weight_of by n) *ℤ e n)
total_by_weights m e [] h = sym (upto_zero m (λ n. pos 0 *ℤ e n) (λ n lt. zero-*ℤ (e n)))
total_by_weights m e (p ∷ ps) h =
    ap (λ z. (pos p.1 *ℤ e p.0) +ℤ z) (total_by_weights m e ps (All-tail (λ q. q.0 < m) p ps h))
    ∙ ap (λ z. z +ℤ upto m (λ n. pos (weight_of ps n) *ℤ e n)) (sym (upto_single m p.0 p.1 e (All-head (λ q. q.0 < m) p ps h)))
    ∙ sym (upto_add m (λ n. pos (single p.0 p.1 n) *ℤ e n) (λ n. pos (weight_of ps n) *ℤ e n))
    ∙ upto_same m (λ n. (pos (single p.0 p.1 n) *ℤ e n) +ℤ (pos (weight_of ps n) *ℤ e n)) (λ n. pos (weight_of (p ∷ ps) n) *ℤ e n)
    (λ n lt. sym (add-mul (pos (single p.0 p.1 n)) (pos (weight_of ps n)) (e n)))

one_weight : (d w s f t g : ℕ) (e : ℤ) → d * w ≡ s * f + t * g → pos d *ℤ (pos w *ℤ e) ≡ (pos s *ℤ (pos f *ℤ e)) +ℤ (pos t *ℤ (pos g *ℤ e))
one_weight d w s f t g e h =
    sym (mul_assoc (pos d) (pos w) e) ∙ ap (λ z. pos z *ℤ e) h ∙ add-mul (pos (s * f)) (pos (t * g)) e
    ∙ ap (λ z. z +ℤ (pos (t * g) *ℤ e)) (mul_assoc (pos s) (pos f) e) ∙ ap (λ z. (pos s *ℤ (pos f *ℤ e)) +ℤ z) (mul_assoc (pos t) (pos g) e)

-- weights that are sums of multiples give such a total
pub total_linear : (m d s t : ℕ) (new first second : List (ℕ × ℕ)) (e : ℕ → ℤ) → All (λ p. p.0 < m) new → All (λ p. p.0 < m) first → All (λ p. p.0 < m) second
    → ((i : ℕ) → d * weight_of new i ≡ mixed_weight s first t second i) → pos d *ℤ total new e ≡ (pos s *ℤ total first e) +ℤ (pos t *ℤ total second e)
total_linear m d s t new first second e hn hf hs w =
    let at : List (ℕ × ℕ) → ℕ → ℤ = λ by n. pos (weight_of by n) *ℤ e n in
    ap (λ z. pos d *ℤ z) (total_by_weights m e new hn) ∙ sym (upto_scale m (pos d) (at new))
    ∙ upto_same m (λ n. pos d *ℤ at new n) (λ n. (pos s *ℤ at first n) +ℤ (pos t *ℤ at second n)) (λ n lt. one_weight d (weight_of new n) s (weight_of first n) t (weight_of second n) (e n) (w n))
    ∙ upto_add m (λ n. pos s *ℤ at first n) (λ n. pos t *ℤ at second n)
    ∙ ap (λ z. z +ℤ upto m (λ n. pos t *ℤ at second n)) (upto_scale m (pos s) (at first) ∙ ap (λ z. pos s *ℤ z) (sym (total_by_weights m e first hf)))
    ∙ ap (λ z. (pos s *ℤ total first e) +ℤ z) (upto_scale m (pos t) (at second) ∙ ap (λ z. pos t *ℤ z) (sym (total_by_weights m e second hs)))

-- ---- A mixture of sums is a sum

no_difference : (a b c : ℤ) → c ≡ neg_ℤ b → a ≡ b → a +ℤ c ≡ pos 0
no_difference a b c e h = omega (arith, ints)

same_numbers : (a b : ℤ) → a +ℤ neg_ℤ b ≡ pos 0 → a ≡ b
same_numbers a b h = omega (arith, ints)

pub cancel_left : (h : ℕ) (a b : ℤ) → 1 ≤ h → pos h *ℤ a ≡ pos h *ℤ b → a ≡ b
cancel_left h a b one e =
    same_numbers a b (factor_of_zero h (a +ℤ neg_ℤ b) one (mul-add (pos h) a (neg_ℤ b) ∙ no_difference (pos h *ℤ a) (pos h *ℤ b) (pos h *ℤ neg_ℤ b) (mul-neg (pos h) b) e))

entries_same : (cs ds : List ℤ) (k l : ℤ) → length cs ≡ length ds → ((j : ℕ) → j ≤ length cs → get_or (cs ++ k ∷ []) j (pos 0) ≡ get_or (ds ++ l ∷ []) j (pos 0)) → (cs ≡ ds) × (k ≡ l)
entries_same [] [] k l h e = (refl, e 0 (omega arith))
entries_same [] (d ∷ ds) k l h e = absurd (omega arith)
entries_same (c ∷ cs) [] k l h e = absurd (omega arith)
entries_same (c ∷ cs) (d ∷ ds) k l h e =
    let rest = entries_same cs ds k l (omega arith) (λ j le. e (suc j) (omega arith)) in
    (ap (λ z. z ∷ cs) (e 0 (omega arith)) ∙ ap (λ zs. d ∷ zs) rest.0, rest.1)

-- forms with the same entries
pub same_form : (f g : Affine) → length f.coefs ≡ length g.coefs → ((j : ℕ) → j ≤ length f.coefs → entry_of f j ≡ entry_of g j) → f ≡ g
same_form f g h e =
    let both = entries_same f.coefs g.coefs f.constant g.constant h e in
    let form : List ℤ → ℤ → Affine = λ cs k. record { coefs = cs; constant = k } in
    ap (λ cs. form cs f.constant) both.0 ∙ ap (λ k. form g.coefs k) both.1

pub mixture_is_sum : (columns column : ℕ) (base : List Affine) (first second new : Kept) → HaveColumns columns base
    → first.row ≡ multiple_sum columns base first.from → second.row ≡ multiple_sum columns base second.from
    → All (λ p. p.0 < 1024) first.from → All (λ p. p.0 < 1024) second.from → All (λ p. p.0 < 1024) new.from
    → IsMixture column first second new → new.row ≡ multiple_sum columns base new.from
mixture_is_sum columns column base first second new h ef es hf hs hn m =
    let d = m.rows.divisor in
    let wf : length first.row.coefs ≡ columns = ap (λ (f : Affine). length f.coefs) ef ∙ sum_width columns base first.from h in
    let wn : length new.row.coefs ≡ columns = m.rows.width ∙ wf in
    same_form new.row (multiple_sum columns base new.from) (wn ∙ sym (sum_width columns base new.from h)) (λ j le'.
    let le : j ≤ columns = subst (λ n. j ≤ n) wn le' in
    let e : ℕ → ℤ = λ n. entry_of (row_at columns base n) j in
    let first_at : entry_of first.row j ≡ total first.from e = ap (λ f. entry_of f j) ef ∙ sum_entry columns base first.from j h le in
    let second_at : entry_of second.row j ≡ total second.from e = ap (λ f. entry_of f j) es ∙ sum_entry columns base second.from j h le in
    cancel_left d (entry_of new.row j) (entry_of (multiple_sum columns base new.from) j) m.rows.positive
    (m.rows.entries j (subst (λ n. j ≤ n) (sym wf) le)
    ∙ ap (λ z. (pos m.rows.s *ℤ z) +ℤ (pos m.rows.t *ℤ entry_of second.row j)) first_at
    ∙ ap (λ z. (pos m.rows.s *ℤ total first.from e) +ℤ (pos m.rows.t *ℤ z)) second_at
    ∙ sym (total_linear 1024 d m.rows.s m.rows.t new.from first.from second.from e hn hf hs m.weights)
    ∙ ap (λ z. pos d *ℤ z) (sym (sum_entry columns base new.from j h le))))
