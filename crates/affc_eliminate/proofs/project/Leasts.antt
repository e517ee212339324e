-- Rows in least terms.
use Rattle.std.proofs.Common.{◌≡◌, ◌⊎◌, ℕ, zero, suc, ◌+◌, ◌*◌, ◌/◌, ◌<◌, ◌≤◌, List, [], ◌∷◌, ◌++◌, length, take, map, get_or, ℤ, pos, negsuc, neg_ℤ, ◌*ℤ◌, ◌<ℤ◌, ◌≤ℤ◌, refl, sym, ap, subst, ◌∙◌, inl, inr, arith}
use Rattle.std.specs.Prelude.{unsigned_abs, Option, Some, None, IfSome, IfNone}
use Rattle.std.specs.List.{All, Contains}
use Rattle.std.specs.Int.{IsGcd}
use Prim.Native.Nat.{◌∣◌}
use Rattle.std.proofs.lemmas.Int.{ints, unsigned_abs-mul}
use Rattle.std.proofs.lemmas.List.{get_or-take, get_or-map, length-map, length-take-le, take_more, map_push, get_or_default}
use Rattle.std.proofs.lemmas.List.Elements.{All-nil, All-more, All-push, All-weaker, Contains-push, Contains-append_left}
use Rattle.std.proofs.lemmas.Nat.Gcd.{dvd_refl, dvd_trans, dvd-zero, dvd_antisymm, le_of_dvd}
use Rattle.std.proofs.Math.Nat.{mul-div_cancel', dvd-mul_right}
use Rattle.affc_rows.specs.Forms.{Affine}
use Rattle.affc_farkas.proofs.Lists.{take_front, take_last}
use Rattle.affc_eliminate.specs.declared.kept.Kept.{Kept}
use Rattle.affc_eliminate.proofs.Rooms.{mul-neg}
use Rattle.affc_eliminate.proofs.Values.{entry_inside, entry_last}
use Rattle.affc_eliminate.specs.project.States.{IsDivisor, IsBlank, IsLeast, AreReduced}

-- ---- The greatest common divisor

pub divisor_start : (divisor : ℕ) (last : ℤ) → divisor ≡ unsigned_abs last → IsDivisor divisor [] last
divisor_start divisor last e = record {
  divides = All-nil (λ n. divisor ∣ unsigned_abs n);
  divides_last = subst (λ d. d ∣ unsigned_abs last) (sym e) (dvd_refl (unsigned_abs last));
  greatest = λ k h m. subst (λ d. k ∣ d) (sym e) m;
}

pub divisor_more : (old new magnitude : ℕ) (numbers : List ℤ) (last : ℤ) (i : ℕ) → i < length numbers → magnitude ≡ unsigned_abs (get_or numbers i (pos 0)) → IsGcd old magnitude new
    → IsDivisor old (take i numbers) last → IsDivisor new (take (i + 1) numbers) last
divisor_more old new magnitude numbers last i lt e g h = record {
  divides = All-more (λ n. new ∣ unsigned_abs n) numbers i (pos 0) lt
      (All-weaker (λ n. old ∣ unsigned_abs n) (λ n. new ∣ unsigned_abs n) (λ n d. dvd_trans new g.0 d) (take i numbers) h.divides) (subst (λ m. new ∣ m) e g.1);
  divides_last = dvd_trans new g.0 h.divides_last;
  greatest = λ k all m. g.2 k (h.greatest k (take_front (λ n. k ∣ unsigned_abs n) numbers i (pos 0) lt all) m) (subst (λ z. k ∣ z) (sym e) (take_last (λ n. k ∣ unsigned_abs n) numbers i (pos 0) lt all));
}

-- ---- Quotients

up_number : (n : ℤ) → pos 0 ≤ℤ n → n ≡ pos (unsigned_abs n)
up_number (pos m) h = refl
up_number (negsuc m) h = absurd (omega (arith, ints))

down_number : (n : ℤ) → n <ℤ pos 0 → n ≡ neg_ℤ (pos (unsigned_abs n))
down_number (pos m) h = absurd (omega (arith, ints))
down_number (negsuc m) h = refl

pub up_quotient : (n : ℤ) (d m : ℕ) → pos 0 ≤ℤ n → d ∣ unsigned_abs n → m ≡ unsigned_abs n / d → n ≡ pos d *ℤ pos m
up_quotient n d m h div e = up_number n h ∙ ap pos (sym (ap (λ z. d * z) e ∙ mul-div_cancel' d div))

pub down_quotient : (n : ℤ) (d m : ℕ) → n <ℤ pos 0 → d ∣ unsigned_abs n → m ≡ unsigned_abs n / d → n ≡ pos d *ℤ neg_ℤ (pos m)
down_quotient n d m h div e = down_number n h ∙ ap (λ z. neg_ℤ (pos z)) (sym (ap (λ z. d * z) e ∙ mul-div_cancel' d div)) ∙ sym (mul-neg (pos d) (pos m))

-- one number more
pub quotients_more : (d : ℕ) (numbers : List ℤ) (i : ℕ) (old new : List ℤ) (part : ℤ) → i < length numbers → get_or numbers i (pos 0) ≡ pos d *ℤ part → new ≡ old ++ part ∷ []
    → take i numbers ≡ map (λ z. pos d *ℤ z) old → take (i + 1) numbers ≡ map (λ z. pos d *ℤ z) new
quotients_more d numbers i old new part lt e is h =
    take_more numbers i (pos 0) lt ∙ ap (λ xs. xs ++ get_or numbers i (pos 0) ∷ []) h ∙ ap (λ z. map (λ z. pos d *ℤ z) old ++ z ∷ []) e
    ∙ sym (ap (map (λ z. pos d *ℤ z)) is ∙ map_push (λ z. pos d *ℤ z) old part)

-- ---- Rows

no_multiple : (d : ℕ) → 1 ≤ d → 0 ≡ d → ⊥
no_multiple d one e = absurd (omega arith)

nothing_times : (d : ℕ) → d * 0 ≡ 0
nothing_times d = omega arith

too_great : (d k : ℕ) → 1 ≤ d → d * suc (suc k) ≤ d → ⊥
too_great zero k one le = absurd (omega arith)
too_great (suc d) k one le = absurd (omega arith)

one_factor : (d k : ℕ) → 1 ≤ d → (d * k) ∣ d → k ≡ 1
one_factor d zero one h = absurd (no_multiple d one (dvd_antisymm {m = 0} {n = d} (subst (λ z. z ∣ d) (nothing_times d) h) (dvd-zero d)))
one_factor d (suc zero) one h = refl
one_factor d (suc (suc k)) one h = absurd (too_great d k one (le_of_dvd {m = d * suc (suc k)} {n = d} one h))

mul_right : (a b c : ℕ) → (a * b) * c ≡ a * (b * c)
mul_right a b c = omega arith

mul_divides : (d k m : ℕ) → k ∣ m → (d * k) ∣ (d * m)
mul_divides d k m h = subst (λ z. (d * k) ∣ z) (mul_right d k (m / k) ∙ ap (λ z. d * z) (mul-div_cancel' k h)) (dvd-mul_right (d * k) (m / k))

times_divides : (d k : ℕ) (n z : ℤ) → n ≡ pos d *ℤ z → k ∣ unsigned_abs z → (d * k) ∣ unsigned_abs n
times_divides d k n z e h = subst (λ m. (d * k) ∣ m) (sym (ap unsigned_abs e ∙ unsigned_abs-mul (pos d) z)) (mul_divides d k (unsigned_abs z) h)

lt_le : (a b : ℕ) → a < b → a ≤ b
lt_le a b h = omega arith

lt_in : (j n k : ℕ) → j < n → n ≤ k → j < k
lt_in j n k h le = omega arith

le_itself : (n : ℕ) → n ≤ n
le_itself n = omega arith

pub least_of : (keep : ℕ) (row f : Affine) (divisor : ℕ) → keep ≤ length row.coefs → take keep row.coefs ≡ map (λ z. pos divisor *ℤ z) f.coefs → row.constant ≡ pos divisor *ℤ f.constant → 1 ≤ divisor
    → IsDivisor divisor (take keep row.coefs) row.constant → IsLeast keep row f
least_of keep row f d le e ek one h =
    let taken = length-take-le keep row.coefs le in
    let w : length f.coefs ≡ keep = sym (length-map f.coefs (λ z. pos d *ℤ z)) ∙ sym (ap length e) ∙ taken in
    let at : (j : ℕ) → j < keep → get_or row.coefs j (pos 0) ≡ pos d *ℤ get_or f.coefs j (pos 0) = λ j lt.
    sym (get_or-take keep row.coefs j (pos 0) lt) ∙ ap (λ xs. get_or xs j (pos 0)) e ∙ get_or-map (λ z. pos d *ℤ z) f.coefs j (pos 0) (pos 0) (subst (λ n. j < n) (sym w) lt) in
    record {
      divisor = d;
      positive = one;
      width = w;
      coefs = λ j lt. entry_inside row j (lt_in j keep (length row.coefs) lt le) ∙ at j lt ∙ ap (λ z. pos d *ℤ z) (sym (entry_inside f j (subst (λ n. j < n) (sym w) lt)));
      last = ek;
      least = λ k all. one_factor d k one (h.greatest (d * k)
          (λ i z lt.
          let lt' : i < keep = subst (λ n. i < n) taken lt in
          subst (λ n. (d * k) ∣ unsigned_abs n) (sym (get_or_default (take keep row.coefs) i z (pos 0) lt ∙ get_or-take keep row.coefs i (pos 0) lt'))
          (times_divides d k (get_or row.coefs i (pos 0)) (get_or f.coefs i (pos 0)) (at i lt') (subst (λ m. k ∣ unsigned_abs m) (entry_inside f i (subst (λ n. i < n) (sym w) lt')) (all i (lt_le i keep lt')))))
          (times_divides d k row.constant f.constant ek (subst (λ m. k ∣ unsigned_abs m) (entry_last f keep w) (all keep (le_itself keep)))));
    }

zero_of : (z : ℤ) → unsigned_abs z ≡ 0 → z ≡ pos 0
zero_of (pos zero) e = refl
zero_of (pos (suc n)) e = absurd (omega arith)
zero_of (negsuc n) e = absurd (omega arith)

abs_zero : (z : ℤ) → 0 ∣ unsigned_abs z → z ≡ pos 0
abs_zero z h = zero_of z (dvd_antisymm {m = unsigned_abs z} {n = 0} (dvd-zero (unsigned_abs z)) h)

pub blank_of : (keep : ℕ) (row : Affine) (divisor : ℕ) → keep ≤ length row.coefs → divisor ≡ 0 → IsDivisor divisor (take keep row.coefs) row.constant → IsBlank keep row
blank_of keep row d le e h = record {
  coefs = λ j lt.
      let lt' : j < length (take keep row.coefs) = subst (λ n. j < n) (sym (length-take-le keep row.coefs le)) lt in
      entry_inside row j (lt_in j keep (length row.coefs) lt le) ∙ sym (get_or-take keep row.coefs j (pos 0) lt)
      ∙ abs_zero (get_or (take keep row.coefs) j (pos 0)) (subst (λ m. m ∣ unsigned_abs (get_or (take keep row.coefs) j (pos 0))) e (h.divides j (pos 0) lt'));
  last = abs_zero row.constant (subst (λ m. m ∣ unsigned_abs row.constant) e h.divides_last);
}

-- ---- All rows

pub reduced_none : (keep : ℕ) → AreReduced keep [] []
reduced_none keep = record {
  from = All-nil (λ f. (k : Kept) × Contains [] k × IsLeast keep k.row f);
  into = All-nil (λ k. IsBlank keep k.row ⊎ ((f : Affine) × Contains [] f × IsLeast keep k.row f));
}

into_more : (keep : ℕ) (rows new : List Affine) (k : Kept) → ((f : Affine) → Contains rows f → Contains new f) → IsBlank keep k.row ⊎ ((f : Affine) × Contains rows f × IsLeast keep k.row f)
    → IsBlank keep k.row ⊎ ((f : Affine) × Contains new f × IsLeast keep k.row f)
into_more keep rows new k grow (inl blank) = inl blank
into_more keep rows new k grow (inr h) = inr (h.0, grow h.0 h.1, h.2)

from_more : (keep : ℕ) (before : List Kept) (k : Kept) (rows : List Affine) → All (λ f. (q : Kept) × Contains before q × IsLeast keep q.row f) rows → All (λ f. (q : Kept) × Contains (before ++ k ∷ []) q × IsLeast keep q.row f) rows
from_more keep before k rows h =
    All-weaker (λ f. (q : Kept) × Contains before q × IsLeast keep q.row f) (λ f. (q : Kept) × Contains (before ++ k ∷ []) q × IsLeast keep q.row f)
    (λ f c. (c.0, Contains-append_left before (k ∷ []) c.0 c.1, c.2)) rows h

more_by : (keep : ℕ) (before : List Kept) (k : Kept) (rows new : List Affine) → ((f : Affine) → Contains rows f → Contains new f) → All (λ f. (q : Kept) × Contains (before ++ k ∷ []) q × IsLeast keep q.row f) new
    → IsBlank keep k.row ⊎ ((f : Affine) × Contains new f × IsLeast keep k.row f) → AreReduced keep before rows → AreReduced keep (before ++ k ∷ []) new
more_by keep before k rows new grow from at h = record {
  from = from;
  into = All-push (λ q. IsBlank keep q.row ⊎ ((f : Affine) × Contains new f × IsLeast keep q.row f)) before k
      (All-weaker (λ q. IsBlank keep q.row ⊎ ((f : Affine) × Contains rows f × IsLeast keep q.row f)) (λ q. IsBlank keep q.row ⊎ ((f : Affine) × Contains new f × IsLeast keep q.row f))
      (λ q c. into_more keep rows new q grow c) before h.into) at;
}

pub reduced_blank : (keep : ℕ) (live : List Kept) (i : ℕ) (k : Kept) (rows : List Affine) → i < length live → k ≡ get_or live i k → IsBlank keep k.row → AreReduced keep (take i live) rows → AreReduced keep (take (i + 1) live) rows
reduced_blank keep live i k rows lt e blank h =
    subst (λ ks. AreReduced keep ks rows) (sym (take_more live i k lt ∙ ap (λ q. take i live ++ q ∷ []) (sym e)))
    (more_by keep (take i live) k rows rows (λ f c. c) (from_more keep (take i live) k rows h.from) (inl blank) h)

pub reduced_more : (keep : ℕ) (live : List Kept) (i : ℕ) (k : Kept) (rows new : List Affine) (f : Affine) → i < length live → k ≡ get_or live i k → new ≡ rows ++ f ∷ [] → IsLeast keep k.row f
    → AreReduced keep (take i live) rows → AreReduced keep (take (i + 1) live) new
reduced_more keep live i k rows new f lt e is least h =
    let before = take i live in
    subst (λ ks. AreReduced keep ks new) (sym (take_more live i k lt ∙ ap (λ q. before ++ q ∷ []) (sym e)))
    (subst (AreReduced keep (before ++ k ∷ [])) (sym is)
    (more_by keep before k rows (rows ++ f ∷ []) (λ g c. Contains-append_left rows (f ∷ []) g c)
    (All-push (λ g. (q : Kept) × Contains (before ++ k ∷ []) q × IsLeast keep q.row g) rows f (from_more keep before k rows h.from) (k, Contains-push before k, least))
    (inr (f, Contains-push rows f, least)) h))

-- ... as it is or not
pub reduced_next : (keep : ℕ) (live : List Kept) (i : ℕ) (k : Kept) (row : Option Affine) (rows new : List Affine) → i < length live → k ≡ get_or live i k → IfSome row (IsLeast keep k.row) → IfNone row (IsBlank keep k.row)
    → IfSome row (λ f. new ≡ rows ++ f ∷ []) → IfNone row (new ≡ rows) → AreReduced keep (take i live) rows → AreReduced keep (take (i + 1) live) new
reduced_next keep live i k (Some f) rows new lt e least blank is same h = reduced_more keep live i k rows new f lt e is least h
reduced_next keep live i k None rows new lt e least blank is same h = subst (AreReduced keep (take (i + 1) live)) (sym same) (reduced_blank keep live i k rows lt e blank h)
