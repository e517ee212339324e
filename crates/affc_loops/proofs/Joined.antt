-- What holds of operands joined by an operator.
use Rattle.std.proofs.Common.{List, [], ◌∷◌, ◌++◌, subst, inl, inr}
use Rattle.std.specs.List.{All}
use Rattle.std.proofs.lemmas.List.Elements.{All-nil, All-cons, All-head, All-tail, All-append}
use Rattle.affc_trace.specs.Law.{IsIn}
use Rattle.affc_loops.specs.Ends.{joined, joined_with}

module _ {A : Type 0} (op : A → A → A) (P : A → Type 0) where
  -- of all operands
  pub joined_all : ((a b : A) → P a → P b → P (op a b)) → (x : A) (ys : List A) → P x → All P ys → P (joined op x ys)
  joined_all both x [] h s = h
  joined_all both x (y ∷ ys) h s = joined_all both (op x y) ys (both x y h (All-head P y ys s)) (All-tail P y ys s)

  pub joined_with_all : ((a b : A) → P a → P b → P (op a b)) → (xs : List A) (last : A) → All P xs → P last → P (joined_with op xs last)
  joined_with_all both [] last s h = h
  joined_with_all both (x ∷ xs) last s h = joined_all both x (xs ++ last ∷ []) (All-head P x xs s) (All-append P xs (last ∷ []) (All-tail P x xs s) (All-cons P last [] h (All-nil P)))

  -- of the last one alone
  joined_last : ((a b : A) → P b → P (op a b)) → (x : A) (ys : List A) (last : A) → P last → P (joined op x (ys ++ last ∷ []))
  joined_last second x [] last h = second x last h
  joined_last second x (y ∷ ys) last h = joined_last second (op x y) ys last h

  pub joined_with_last : ((a b : A) → P b → P (op a b)) → (xs : List A) (last : A) → P last → P (joined_with op xs last)
  joined_with_last second [] last h = h
  joined_with_last second (x ∷ xs) last h = joined_last second x xs last h

  -- and back, of each operand
  pub joined_parts : ((a b : A) → P (op a b) → P a × P b) → (x : A) (ys : List A) → P (joined op x ys) → P x × All P ys
  joined_parts parts x [] h = (h, All-nil P)
  joined_parts parts x (y ∷ ys) h =
      let r = joined_parts parts (op x y) ys h in
      let b = parts x y r.0 in
      (b.0, All-cons P y ys b.1 r.1)

  pub joined_with_parts : ((a b : A) → P (op a b) → P a × P b) → (xs : List A) (last : A) → P (joined_with op xs last) → All P xs
  joined_with_parts parts [] last h = All-nil P
  joined_with_parts parts (x ∷ xs) last h = let r = joined_parts parts x (xs ++ last ∷ []) h in All-cons P x xs r.0 (firsts xs r.1)
    where
      firsts : (xs : List A) → All P (xs ++ last ∷ []) → All P xs
      firsts [] s = All-nil P
      firsts (y ∷ ys) s = All-cons P y ys (All-head P y (ys ++ last ∷ []) s) (firsts ys (All-tail P y (ys ++ last ∷ []) s))

-- of some operand, where all operands are such that the operator keeps it
module _ {A : Type 0} (op : A → A → A) (Q P : A → Type 0) (closed : (a b : A) → Q a → Q b → Q (op a b))
    (first : (a b : A) → Q a → Q b → P a → P (op a b)) (second : (a b : A) → Q a → Q b → P b → P (op a b)) where
  joined_first : (x : A) (ys : List A) → Q x → All Q ys → P x → P (joined op x ys)
  joined_first x [] q s h = h
  joined_first x (y ∷ ys) q s h =
      let r : Q y = All-head Q y ys s in
      joined_first (op x y) ys (closed x y q r) (All-tail Q y ys s) (first x y q r h)

  pub joined_any : (x : A) (ys : List A) → Q x → All Q ys → (z : A) → IsIn z (x ∷ ys) → P z → P (joined op x ys)
  joined_any x ys q s z (inl e) h = joined_first x ys q s (subst P e h)
  joined_any x [] q s z (inr i) h = absurd i
  joined_any x (y ∷ ys) q s z (inr (inl e)) h =
      let r : Q y = All-head Q y ys s in
      joined_first (op x y) ys (closed x y q r) (All-tail Q y ys s) (second x y q r (subst P e h))
  joined_any x (y ∷ ys) q s z (inr (inr i)) h =
      let r : Q y = All-head Q y ys s in
      joined_any (op x y) ys (closed x y q r) (All-tail Q y ys s) z (inr i) h
