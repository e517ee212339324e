-- Rows at every two places of a list, and rows that are left out.
use Rattle.std.proofs.Common.{◌≡◌, ◌≢◌, ◌⊎◌, ℕ, ◌+◌, ◌<◌, ◌≤◌, Bool, false, List, [], ◌∷◌, ◌++◌, length, get_or, ℤ, pos, ◌≤ℤ◌, refl, sym, ap, subst, ◌∙◌, inl, inr, arith}
use Rattle.std.specs.List.{All, Contains}
use Rattle.std.proofs.lemmas.Bool.{cases_lt}
use Rattle.std.proofs.lemmas.List.{length_push, get_or_append_left, get_or_push, get_or-map, length-map}
use Rattle.std.proofs.lemmas.List.Elements.{All-nil, All-push, All-weaker, All-map, All-contains, All-contains_itself, Contains-append_left, Contains-push}
use Rattle.affc_rows.specs.Forms.{Affine}
use Rattle.affc_farkas.specs.Rational.{scaled_value}
use Rattle.affc_farkas.proofs.Implied.{holds_everywhere}
use Rattle.affc_eliminate.specs.Points.{HoldAt, Implies, IsTrivial}
use Rattle.affc_eliminate.specs.Mixtures.{forms_of}
use Rattle.affc_eliminate.specs.Steps.{EachTwo, AreNumbered, AreScreened}
use Rattle.affc_eliminate.specs.Sieves.{AreApart, AreSieved, AreAdmitted}
use Rattle.affc_eliminate.specs.declared.kept.Kept.{Kept}

-- ---- Each two

push_end : (n i : ℕ) → i < n + 1 → n ≤ i → n ≡ i
push_end n i h k = omega arith

pub two_none : (R : Kept → Kept → Type 0) → EachTwo R []
two_none R i j k lt = absurd (omega arith)

-- one row more, beside each of those before it
pub two_push : (R : Kept → Kept → Type 0) (xs : List Kept) (y : Kept) → EachTwo R xs → All (λ z. R z y × R y z) xs → EachTwo R (xs ++ y ∷ [])
two_push R xs y h all i j k li lj ne =
    let n = length_push xs y in
    let one : (m : ℕ) → m < length xs → R (get_or xs m k) y × R y (get_or xs m k) = λ m lt. all m k lt in
    let before : (m : ℕ) → m < length xs → get_or xs m k ≡ get_or (xs ++ y ∷ []) m k = λ m lt. sym (get_or_append_left xs (y ∷ []) k m lt) in
    let last : (m : ℕ) → length xs ≡ m → y ≡ get_or (xs ++ y ∷ []) m k = λ m e. sym (get_or_push xs y k m e) in
    elim (cases_lt i (length xs)) [
      | inl a ↦ elim (cases_lt j (length xs)) [
        | inl b ↦ subst (λ z. R z (get_or (xs ++ y ∷ []) j k)) (before i a) (subst (λ z. R (get_or xs i k) z) (before j b) (h i j k a b ne))
        | inr b ↦ let e = push_end (length xs) j (subst (λ m. j < m) n lj) b in
            subst (λ z. R z (get_or (xs ++ y ∷ []) j k)) (before i a) (subst (λ z. R (get_or xs i k) z) (last j e) ((one i a).0))
      ]
      | inr a ↦ let d = push_end (length xs) i (subst (λ m. i < m) n li) a in
          elim (cases_lt j (length xs)) [
            | inl b ↦ subst (λ z. R z (get_or (xs ++ y ∷ []) j k)) (last i d) (subst (λ z. R y z) (before j b) ((one j b).1))
            | inr b ↦ let e = push_end (length xs) j (subst (λ m. j < m) n lj) b in absurd (ne (sym d ∙ e))
          ]
    ]

pub two_front : (R : Kept → Kept → Type 0) (xs : List Kept) (y : Kept) → EachTwo R (xs ++ y ∷ []) → EachTwo R xs
two_front R xs y h i j k li lj ne =
    let n = length_push xs y in
    subst (λ z. R z (get_or xs j k)) (get_or_append_left xs (y ∷ []) k i li)
    (subst (λ z. R (get_or (xs ++ y ∷ []) i k) z) (get_or_append_left xs (y ∷ []) k j lj) (h i j k (omega arith) (omega arith) ne))

-- a row and the last one
pub two_last : (R : Kept → Kept → Type 0) (xs : List Kept) (y z : Kept) → EachTwo R (xs ++ y ∷ []) → Contains xs z → R z y × R y z
two_last R xs y z h c =
    let n = length_push xs y in
    let i = c.0 in
    let m = length xs in
    let li : i < m = c.1 in
    let apart : i ≢ m = λ e. absurd (omega arith) in
    let apart' : m ≢ i = λ e. absurd (omega arith) in
    let at : get_or (xs ++ y ∷ []) i z ≡ z = get_or_append_left xs (y ∷ []) z i li ∙ c.2 in
    let end : get_or (xs ++ y ∷ []) m z ≡ y = get_or_push xs y z m refl in (
      subst (λ w. R w y) at (subst (λ w. R (get_or (xs ++ y ∷ []) i z) w) end (h i m z (omega arith) (omega arith) apart)),
      subst (λ w. R y w) at (subst (λ w. R w (get_or (xs ++ y ∷ []) i z)) end (h m i z (omega arith) (omega arith) apart')),
    )

pub two_weaker : (R S : Kept → Kept → Type 0) (xs : List Kept) → ((a b : Kept) → R a b → S a b) → EachTwo R xs → EachTwo S xs
two_weaker R S xs f h i j k li lj ne = f _ _ (h i j k li lj ne)

pub numbered_from : (Answers : Affine → Affine → Bool → Type 0) (xs : List Kept) → AreApart Answers xs → AreNumbered xs
numbered_from Answers xs h = two_weaker (λ k q. Answers k.row q.row false × (k.number ≢ q.number)) (λ k q. k.number ≢ q.number) xs (λ a b r. r.1) h

pub screened_from : (Answers : Affine → Affine → Bool → Type 0) (xs : List Kept) → AreApart Answers xs → AreScreened Answers xs
screened_from Answers xs h = two_weaker (λ k q. Answers k.row q.row false × (k.number ≢ q.number)) (λ k q. Answers k.row q.row false) xs (λ a b r. r.0) h

-- ---- The rows that are left

pub sieved_none : (Answers : Affine → Affine → Bool → Type 0) (row : Affine) → AreSieved Answers [] row []
sieved_none Answers row = record {
  among = All-nil (Contains []);
  answered = All-nil (λ k. Answers row k.row false);
  covered = All-nil (λ k. Contains [] k ⊎ Implies row k.row);
  apart = λ h. h;
  few = omega arith;
}

-- none is implied
pub sieved_all : (Answers : Affine → Affine → Bool → Type 0) (others : List Kept) (row : Affine) → All (λ k. Answers row k.row false) others → AreSieved Answers others row others
sieved_all Answers others row h = record {
  among = All-contains_itself others;
  answered = h;
  covered = All-weaker (Contains others) (λ k. Contains others k ⊎ Implies row k.row) (λ k c. inl c) others (All-contains_itself others);
  apart = λ t. t;
  few = omega arith;
}

apart_front : (Answers : Affine → Affine → Bool → Type 0) (xs : List Kept) (y : Kept) → AreApart Answers (xs ++ y ∷ []) → AreApart Answers xs
apart_front Answers xs y h = two_front (λ k q. Answers k.row q.row false × (k.number ≢ q.number)) xs y h

pub sieved_keep : (Answers : Affine → Affine → Bool → Type 0) (others : List Kept) (row : Affine) (left : List Kept) (k : Kept) → AreSieved Answers others row left → Answers row k.row false
    → AreSieved Answers (others ++ k ∷ []) row (left ++ k ∷ [])
sieved_keep Answers others row left k h a = record {
  among = All-push (Contains (others ++ k ∷ [])) left k (All-weaker (Contains others) (Contains (others ++ k ∷ [])) (λ q c. Contains-append_left others (k ∷ []) q c) left h.among) (Contains-push others k);
  answered = All-push (λ q. Answers row q.row false) left k h.answered a;
  covered = All-push (λ q. Contains (left ++ k ∷ []) q ⊎ Implies row q.row) others k
      (All-weaker (λ q. Contains left q ⊎ Implies row q.row) (λ q. Contains (left ++ k ∷ []) q ⊎ Implies row q.row)
      (λ q c. elim c [ inl i ↦ inl (Contains-append_left left (k ∷ []) q i) | inr i ↦ inr i ]) others h.covered)
      (inl (Contains-push left k));
  apart = λ t.
      let R = λ (p : Kept) (q : Kept). Answers p.row q.row false × (p.number ≢ q.number) in
      two_push R left k (h.apart (apart_front Answers others k t)) (All-weaker (Contains others) (λ z. R z k × R k z) (λ z c. two_last R others k z t c) left h.among);
  few = let a = length_push left k in let b = length_push others k in let c = h.few in omega arith;
}

pub sieved_drop : (Answers : Affine → Affine → Bool → Type 0) (others : List Kept) (row : Affine) (left : List Kept) (k : Kept) → AreSieved Answers others row left → Implies row k.row
    → AreSieved Answers (others ++ k ∷ []) row left
sieved_drop Answers others row left k h i = record {
  among = All-weaker (Contains others) (Contains (others ++ k ∷ [])) (λ q c. Contains-append_left others (k ∷ []) q c) left h.among;
  answered = h.answered;
  covered = All-push (λ q. Contains left q ⊎ Implies row q.row) others k h.covered (inr i);
  apart = λ t. h.apart (apart_front Answers others k t);
  few = let b = length_push others k in let c = h.few in omega arith;
}

-- ---- One row more

pub held_row : (x : List ℤ) (d : ℤ) (rows : List Kept) (k : Kept) → HoldAt x d (forms_of rows) → Contains rows k → pos 0 ≤ℤ scaled_value k.row x d
held_row x d rows k h c =
    subst (λ f. pos 0 ≤ℤ scaled_value f x d) (get_or-map (λ (q : Kept). q.row) rows c.0 k k.row c.1 ∙ ap (λ (q : Kept). q.row) c.2)
    (h c.0 k.row (subst (λ n. c.0 < n) (sym (length-map rows (λ (q : Kept). q.row))) c.1))

pub held_rows : (x : List ℤ) (d : ℤ) (rows : List Kept) → All (λ k. pos 0 ≤ℤ scaled_value k.row x d) rows → HoldAt x d (forms_of rows)
held_rows x d rows h = All-map (λ f. pos 0 ≤ℤ scaled_value f x d) (λ (q : Kept). q.row) rows h

pub admitted_spare : (Answers : Affine → Affine → Bool → Type 0) (others : List Kept) (kept : Kept)
    → ((x : List ℤ) (d : ℤ) → length x ≡ length kept.row.coefs → pos 1 ≤ℤ d → HoldAt x d (forms_of others) → pos 0 ≤ℤ scaled_value kept.row x d) → AreAdmitted Answers others kept others
admitted_spare Answers others kept h = record {
  among = All-weaker (Contains others) (λ k. Contains others k ⊎ (k ≡ kept)) (λ k c. inl c) others (All-contains_itself others);
  met = λ x d l one a. (a, h x d l one a);
  apart = λ t n. t;
  not_trivial = λ t. t;
  few = omega arith;
}

pub admitted_trivial : (Answers : Affine → Affine → Bool → Type 0) (others : List Kept) (kept : Kept) → IsTrivial kept.row → AreAdmitted Answers others kept others
admitted_trivial Answers others kept t = admitted_spare Answers others kept (λ x d l one a. holds_everywhere kept.row x d t.0 t.1 one)

pub admitted_implied : (Answers : Affine → Affine → Bool → Type 0) (others : List Kept) (kept k : Kept) → All (λ q. length q.row.coefs ≡ length kept.row.coefs) others
    → Contains others k → Implies k.row kept.row → AreAdmitted Answers others kept others
admitted_implied Answers others kept k w c i =
    admitted_spare Answers others kept (λ x d l one a. i x d (l ∙ sym (All-contains (λ q. length q.row.coefs ≡ length kept.row.coefs) others k w c)) one (held_row x d others k a c))

pub admitted_new : (Answers : Affine → Affine → Bool → Type 0) (others left : List Kept) (kept : Kept)
    → (IsTrivial kept.row → ⊥) → All (λ k. Answers k.row kept.row false) others → AreSieved Answers others kept.row left → AreAdmitted Answers others kept (left ++ kept ∷ [])
admitted_new Answers others left kept nt a s =
    let new = left ++ kept ∷ [] in
    record {
      among = All-push (λ k. Contains others k ⊎ (k ≡ kept)) left kept (All-weaker (Contains others) (λ k. Contains others k ⊎ (k ≡ kept)) (λ k c. inl c) left s.among) (inr refl);
      met = λ x d l one h.
          let row = held_row x d new kept h (Contains-push left kept) in (
            held_rows x d others (All-weaker (λ k. Contains left k ⊎ Implies kept.row k.row) (λ k. pos 0 ≤ℤ scaled_value k.row x d)
                (λ k c. elim c [ inl i ↦ held_row x d new k h (Contains-append_left left (kept ∷ []) k i) | inr i ↦ i x d l one row ]) others s.covered),
            row,
          );
      apart = λ t n.
          let R = λ (p : Kept) (q : Kept). Answers p.row q.row false × (p.number ≢ q.number) in
          two_push R left kept (s.apart t) (λ i d lt.
          let k = get_or left i d in
          let c = s.among i d lt in
          let ne = All-contains (λ q. q.number ≢ kept.number) others k n c in (
            (All-contains (λ q. Answers q.row kept.row false) others k a c, ne),
            (s.answered i d lt, λ e. ne (sym e)),
          ));
      not_trivial = λ t. All-push (λ k. IsTrivial k.row → ⊥) left kept (All-weaker (Contains others) (λ k. IsTrivial k.row → ⊥) (λ k c. All-contains (λ q. IsTrivial q.row → ⊥) others k t c) left s.among) nt;
      few = let b = length_push left kept in let c = s.few in omega arith;
    }
