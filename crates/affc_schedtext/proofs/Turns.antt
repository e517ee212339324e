-- Readers of drafts beside the grammar's readers: a token and what is read behind it, and reading until the whole is read.
use Rattle.std.proofs.Common.{◌≡◌, ℕ, zero, suc, List, length, Option, Some, Ok, Err, refl, ap, ◌∙◌}
use Rattle.affc_grammar.specs.Grammar.{Symbol}
use Rattle.affc_grammar.specs.Reader.{At, Reader, then_read, give, fail, after, on, Turn, going, done, tries, until, and_on}
use Rattle.affc_syntax.specs.Ahead.{past}
use Rattle.affc_syntax.specs.Readers.{mapped, on_past}
use Rattle.affc_syntax.proofs.Draws.{then_is, either_mapped, failed}
use Rattle.affc_schedtext.specs.Drafting.{going_on, tries_more, until_done}

-- ---- A token, and what is read behind it

pub on_is : {K A D : Type 0} (test : Symbol → Option K) (f : K → Reader Symbol A) (h : K → Reader Symbol D) (e : A → D) (ts : List Symbol) → ((k : K) (us : List Symbol) → past test ts ≡ Some (k, us) → h k us ≡ mapped e (f k us)) → on_past (past test ts) h (Err (At ts)) ≡ mapped e (on test f ts)
on_is test f h e ts k = either_mapped test f fail h (Err (At ts)) e ts k (failed e ts)

-- ---- Until the whole is read

abbrev pub turned : {A D C E : Type 0} → (A → D) → (C → E) → Turn A C → Turn D E
turned f e (going a) = going (f a)
turned f e (done c) = done (e c)

module _ {A D C E K : Type 0} (test : Symbol → Option K) (turn : K → A → Reader Symbol (Turn A C)) (drawn : K → D → Reader Symbol (Turn D E)) (f : A → D) (e : C → E) (P : A → List Symbol → Type 0)
    (same_turn : (k : K) (left : A) (ts us : List Symbol) → past test ts ≡ Some (k, us) → P left ts → drawn k (f left) us ≡ mapped (turned f e) (turn k left us))
    (keeps : (k : K) (left : A) (ts us : List Symbol) → past test ts ≡ Some (k, us) → P left ts → (b : A) (vs : List Symbol) → turn k left us ≡ Ok (going b, vs) → P b vs) where
  tries_is : (n : ℕ) (left : A) (ts : List Symbol) → P left ts → tries_more test drawn n (f left) ts ≡ mapped e (tries test turn n left ts)
  unfolding tries fail give after
  tries_is zero left ts p = refl
  tries_is (suc n) left ts p =
      on_is test (λ k. after (turn k left) (and_on (tries test turn n))) (λ k us. then_read (drawn k (f left) us) (going_on (tries_more test drawn n))) e ts (λ k us c.
      then_is (drawn k (f left) us) (turn k left us) (turned f e) (and_on (tries test turn n)) (going_on (tries_more test drawn n)) e (same_turn k left ts us c p)
      (λ t vs q. behind t vs (λ b s. tries_is n b vs (keeps k left ts us c p b vs (q ∙ ap (λ x. Ok (x, vs)) s)))))
    where
      behind : (t : Turn A C) (vs : List Symbol) → ((b : A) → t ≡ going b → tries_more test drawn n (f b) vs ≡ mapped e (tries test turn n b vs)) → going_on (tries_more test drawn n) (turned f e t) vs ≡ mapped e (and_on (tries test turn n) t vs)
      behind (going a) vs h = h a refl
      behind (done c) vs h = refl

  pub until_drawn : (left : A) (ts : List Symbol) → P left ts → until_done test drawn (f left) ts ≡ mapped e (until test turn left ts)
  unfolding until until_done
  until_drawn left ts p = tries_is (length ts) left ts p

-- ---- Steps
