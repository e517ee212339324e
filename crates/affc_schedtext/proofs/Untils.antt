-- Reading until the whole is read, as the code goes on: for any readers.
use Rattle.std.proofs.Common.{◌≡◌, ℕ, zero, suc, ◌≤◌, List, [], ◌∷◌, length, Option, Some, None, Ok, Err, refl, ap, ◌∙◌, arith}
use Rattle.affc_grammar.specs.Grammar.{Symbol}
use Rattle.affc_grammar.specs.Reader.{Stop, At, Deep, Reader, then_read, Turn, going, done}
use Rattle.affc_grammar.proofs.Closed.{then_same}
use Rattle.affc_syntax.specs.declared.ahead.Stop as stop
use Rattle.affc_syntax.specs.declared.ahead.Stop.TheVariants as s
use Rattle.affc_syntax.specs.Ahead.{past, with_rest}
use Rattle.affc_syntax.specs.Readers.{on_past, Fails}
use Rattle.affc_syntax.proofs.Readers.{Shrinks}
use Rattle.affc_schedtext.specs.Drafting.{going_on, tries_more, until_done}

module _ {A C K : Type 0} (test : Symbol → Option K) (turn : K → A → Reader Symbol (Turn A C)) (h : (k : K) (left : A) → Shrinks (turn k left)) where
  same_try : (m n : ℕ) (ts : List Symbol) → ((a : A) (us : List Symbol) → length us ≤ length ts → tries_more test turn m a us ≡ tries_more test turn n a us) → (r : Turn A C) (us : List Symbol) → length us ≤ length ts → going_on (tries_more test turn m) r us ≡ going_on (tries_more test turn n) r us
  same_try m n ts e (going a) us few = e a us few
  same_try m n ts e (done c) us few = refl

  try_turn : (m n : ℕ) (left : A) (x : Symbol) (ts : List Symbol) → ((a : A) (us : List Symbol) → length us ≤ length ts → tries_more test turn m a us ≡ tries_more test turn n a us) → (o : Option K)
      → on_past (with_rest ts o) (λ k us. then_read (turn k left us) (going_on (tries_more test turn m))) (Err (At (x ∷ ts))) ≡ on_past (with_rest ts o) (λ k us. then_read (turn k left us) (going_on (tries_more test turn n))) (Err (At (x ∷ ts)))
  try_turn m n left x ts e None = refl
  try_turn m n left x ts e (Some k) = then_same (turn k left ts) _ _ (λ r us q. same_try m n ts e r us (h k left ts r us q))

  tries_enough : (m n : ℕ) (left : A) (ts : List Symbol) → length ts ≤ m → length ts ≤ n → tries_more test turn m left ts ≡ tries_more test turn n left ts
  tries_enough zero zero left ts p q = refl
  tries_enough zero (suc n) left [] p q = refl
  tries_enough zero (suc n) left (x ∷ ts) p q = absurd (omega arith)
  tries_enough (suc m) zero left [] p q = refl
  tries_enough (suc m) zero left (x ∷ ts) p q = absurd (omega arith)
  tries_enough (suc m) (suc n) left [] p q = refl
  tries_enough (suc m) (suc n) left (x ∷ ts) p q = try_turn m n left x ts (λ a us few. tries_enough m n a us (omega arith) (omega arith)) (test x)

  pub until_is : (left : A) (ts : List Symbol) → until_done test turn left ts ≡ on_past (past test ts) (λ k us. then_read (turn k left us) (going_on (until_done test turn))) (Err (At ts))
  unfolding until_done
  until_is left [] = refl
  until_is left (x ∷ ts) = first_turn (test x)
    where
      on_turn : (r : Turn A C) (us : List Symbol) → length us ≤ length ts → going_on (tries_more test turn (length ts)) r us ≡ going_on (λ a vs. tries_more test turn (length vs) a vs) r us
      on_turn (going a) us few = tries_enough (length ts) (length us) a us few (omega arith)
      on_turn (done c) us few = refl

      first_turn : (o : Option K) → on_past (with_rest ts o) (λ k us. then_read (turn k left us) (going_on (tries_more test turn (length ts)))) (Err (At (x ∷ ts))) ≡ on_past (with_rest ts o) (λ k us. then_read (turn k left us) (going_on (λ a vs. tries_more test turn (length vs) a vs))) (Err (At (x ∷ ts)))
      first_turn None = refl
      first_turn (Some k) = then_same (turn k left ts) _ _ (λ r us q. on_turn r us (h k left ts r us q))

  until_turn : (left : A) (ts : List Symbol) (k : K) (us : List Symbol) → past test ts ≡ Some (k, us) → until_done test turn left ts ≡ then_read (turn k left us) (going_on (until_done test turn))
  until_turn left ts k us e = until_is left ts ∙ ap (λ o. on_past o (λ k us. then_read (turn k left us) (going_on (until_done test turn))) (Err (At ts))) e

  pub until_on : (left : A) (ts : List Symbol) (k : K) (us : List Symbol) (b : A) (rest : List Symbol) → past test ts ≡ Some (k, us) → turn k left us ≡ Ok (going b, rest) → until_done test turn left ts ≡ until_done test turn b rest
  until_on left ts k us b rest e q = until_turn left ts k us e ∙ ap (λ r. then_read r (going_on (until_done test turn))) q

  pub until_whole : (left : A) (ts : List Symbol) (k : K) (us : List Symbol) (c : C) (rest : List Symbol) → past test ts ≡ Some (k, us) → turn k left us ≡ Ok (done c, rest) → until_done test turn left ts ≡ Ok (c, rest)
  until_whole left ts k us c rest e q = until_turn left ts k us e ∙ ap (λ r. then_read r (going_on (until_done test turn))) q

  pub until_end : (left : A) (ts : List Symbol) → past test ts ≡ None → until_done test turn left ts ≡ Err (At ts)
  until_end left ts e = until_is left ts ∙ ap (λ o. on_past o (λ k us. then_read (turn k left us) (going_on (until_done test turn))) (Err (At ts))) e

  until_err : (left : A) (ts : List Symbol) (k : K) (us : List Symbol) (x : Stop Symbol) → past test ts ≡ Some (k, us) → turn k left us ≡ Err x → until_done test turn left ts ≡ Err x
  until_err left ts k us x e q = until_turn left ts k us e ∙ ap (λ r. then_read r (going_on (until_done test turn))) q ∙ err x
    where
      err : (x : Stop Symbol) → then_read (Err x) (going_on (until_done test turn)) ≡ Err x
      err (At ts) = refl
      err Deep = refl

  pub until_stop : (ss : List Symbol) (left : A) (ts : List Symbol) (k : K) (us : List Symbol) (f : stop.Stop) → past test ts ≡ Some (k, us) → Fails ss f (turn k left us) → Fails ss f (until_done test turn left ts)
  until_stop ss left ts k us s.Memory e q = tt
  until_stop ss left ts k us s.Deep e q = until_err left ts k us Deep e q
  until_stop ss left ts k us (s.At rest) e q = until_err left ts k us _ e q
