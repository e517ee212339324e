-- Readers of drafts beside the grammar's readers: for any readers.
use Rattle.std.proofs.Common.{◌≡◌, ℕ, zero, suc, ◌+◌, ◌-◌, ◌≤◌, List, [], ◌∷◌, ◌++◌, length, drop, map, length-drop, Option, Some, None, Ok, Err, refl, sym, ap, ◌∙◌, arith, length-append}
use Rattle.std.specs.Option.{option_map}
use Rattle.std.proofs.lemmas.List.{length-map}
use Rattle.affc_grammar.specs.Grammar.{Symbol}
use Rattle.affc_grammar.specs.Reader.{At, Deep, Read, Reader, then_read, on_some, give, fail, after, either, on, many, all}
use Rattle.affc_grammar.specs.Reading.{this_mark}
use Rattle.affc_syntax.specs.declared.draft.symbol.Symbol as code
use Rattle.affc_syntax.specs.draft.Symbols.{seen}
use Rattle.affc_syntax.specs.Ahead.{past, with_rest}
use Rattle.affc_syntax.specs.Readers.{mapped, on_past, closed, more, all_more}
use Rattle.affc_syntax.proofs.Readers.{some_pair}

pub mapped_then : {A B D E : Type 0} (x : Read Symbol A) (d : A → D) (f : A → Reader Symbol B) (h : D → Reader Symbol E) (e : B → E) → ((a : A) (us : List Symbol) → x ≡ Ok (a, us) → h (d a) us ≡ mapped e (f a us)) → then_read (mapped d x) h ≡ mapped e (then_read x f)
mapped_then (Ok x) d f h e k = k x.0 x.1 refl
mapped_then (Err (At ts)) d f h e k = refl
mapped_then (Err Deep) d f h e k = refl

pub then_is : {A B D E : Type 0} (y : Read Symbol D) (x : Read Symbol A) (d : A → D) (f : A → Reader Symbol B) (h : D → Reader Symbol E) (e : B → E) → y ≡ mapped d x → ((a : A) (us : List Symbol) → x ≡ Ok (a, us) → h (d a) us ≡ mapped e (f a us)) → then_read y h ≡ mapped e (then_read x f)
then_is y x d f h e q k = ap (λ z. then_read z h) q ∙ mapped_then x d f h e k

pub then_then : {A B C : Type 0} (x : Read Symbol A) (f : A → Reader Symbol B) (g : B → Reader Symbol C) → then_read (then_read x f) g ≡ then_read x (λ a us. then_read (f a us) g)
then_then (Ok x) f g = refl
then_then (Err (At ts)) f g = refl
then_then (Err Deep) f g = refl

-- by the first token, as the grammar's readers go
pub either_past : {A K : Type 0} (test : Symbol → Option K) (next : K → Reader Symbol A) (other : Reader Symbol A) (ts : List Symbol) → either test next other ts ≡ on_past (past test ts) next (other ts)
unfolding either
either_past test next other [] = refl
either_past {A} {K} test next other (x ∷ ts) = of_test (test x)
  where
    of_test : (o : Option K) → on_some o (λ k. next k ts) (other (x ∷ ts)) ≡ on_past (with_rest ts o) next (other (x ∷ ts))
    of_test None = refl
    of_test (Some k) = refl

pub past_mapped : {K A D : Type 0} (o : Option (K × List Symbol)) (f : K → Reader Symbol A) (h : K → Reader Symbol D) (e : A → D) (x : Read Symbol A) (y : Read Symbol D) → ((k : K) (us : List Symbol) → o ≡ Some (k, us) → h k us ≡ mapped e (f k us)) → y ≡ mapped e x → on_past o h y ≡ mapped e (on_past o f x)
past_mapped None f h e x y k q = q
past_mapped (Some p) f h e x y k q = k p.0 p.1 refl

-- by the first token, on both sides
pub either_mapped : {K A D : Type 0} (test : Symbol → Option K) (f : K → Reader Symbol A) (other : Reader Symbol A) (h : K → Reader Symbol D) (y : Read Symbol D) (e : A → D) (ts : List Symbol) → ((k : K) (us : List Symbol) → past test ts ≡ Some (k, us) → h k us ≡ mapped e (f k us)) → y ≡ mapped e (other ts) → on_past (past test ts) h y ≡ mapped e (either test f other ts)
either_mapped test f other h y e ts k q = past_mapped (past test ts) f h e (other ts) y k q ∙ ap (mapped e) (sym (either_past test f other ts))

pub past_one : {K : Type 0} (test : Symbol → Option K) (ts : List Symbol) (k : K) (us : List Symbol) → past test ts ≡ Some (k, us) → length ts ≡ length us + 1
past_one test [] k us e = absurd (cc)
past_one {K} test (x ∷ ts) k us e = of_test (test x) e
  where
    of_test : (o : Option K) → with_rest ts o ≡ Some (k, us) → suc (length ts) ≡ length us + 1
    of_test None e = absurd (cc)
    of_test (Some l) e = omega (arith, ap length (some_pair l ts k us e))

pub failed : {A D : Type 0} (e : A → D) (ts : List Symbol) → ◌≡◌ {A = Read Symbol D} (Err (At ts)) (mapped e (fail ts))
unfolding fail
failed e ts = refl

-- where the two sides take the token in another way
pub past_turned : {K L : Type 0} (test : Symbol → Option K) (turned : Symbol → Option L) (c : K → L) → ((x : Symbol) → turned x ≡ option_map c (test x)) → (ts : List Symbol) → past turned ts ≡ option_map (λ p. (c p.0, p.1)) (past test ts)
past_turned test turned c same [] = refl
past_turned {K} test turned c same (x ∷ ts) = ap (with_rest ts) (same x) ∙ of_test (test x)
  where
    of_test : (o : Option K) → with_rest ts (option_map c o) ≡ option_map (λ p. (c p.0, p.1)) (with_rest ts o)
    of_test None = refl
    of_test (Some k) = refl

pub turned_mapped : {K L A D : Type 0} (o : Option (K × List Symbol)) (c : K → L) (f : K → Reader Symbol A) (h : L → Reader Symbol D) (e : A → D) (x : Read Symbol A) (y : Read Symbol D) → ((k : K) (us : List Symbol) → o ≡ Some (k, us) → h (c k) us ≡ mapped e (f k us)) → y ≡ mapped e x
    → on_past (option_map (λ p. (c p.0, p.1)) o) h y ≡ mapped e (on_past o f x)
turned_mapped None c f h e x y k q = q
turned_mapped (Some p) c f h e x y k q = k p.0 p.1 refl

pub either_turned : {K L A D : Type 0} (test : Symbol → Option K) (turned : Symbol → Option L) (c : K → L) → ((x : Symbol) → turned x ≡ option_map c (test x)) → (f : K → Reader Symbol A) (other : Reader Symbol A) (h : L → Reader Symbol D) (y : Read Symbol D) (e : A → D) (ts : List Symbol)
    → ((k : K) (us : List Symbol) → past test ts ≡ Some (k, us) → h (c k) us ≡ mapped e (f k us)) → y ≡ mapped e (other ts) → on_past (past turned ts) h y ≡ mapped e (either test f other ts)
either_turned test turned c same f other h y e ts k q =
    ap (λ o. on_past o h y) (past_turned test turned c same ts)
    ∙ turned_mapped (past test ts) c f h e (other ts) y k q
    ∙ ap (mapped e) (sym (either_past test f other ts))

-- a mark that closes what was read
pub closed_is : {A D : Type 0} (bytes : List ℕ) (a : A) (b : D) (e : A → D) (ts : List Symbol) → b ≡ e a → closed bytes b ts ≡ mapped e (on (this_mark bytes) (λ _. give a) ts)
unfolding give fail
closed_is bytes a b e ts q = either_mapped (this_mark bytes) (λ _. give a) fail (λ _ us. Ok (b, us)) (Err (At ts)) e ts (λ k us p. ap (λ x. Ok (x, us)) q) refl

-- ---- Loops

-- where the two sides take the token in another way
module _ {A D K L : Type 0} (test : Symbol → Option K) (turned : Symbol → Option L) (c : K → L) (same_test : (x : Symbol) → turned x ≡ option_map c (test x)) (turn : K → A → Reader Symbol A) (drawn : L → D → Reader Symbol D) (d : A → D) (P : A → List Symbol → Type 0)
    (same : (k : K) (left : A) (ts us : List Symbol) → past test ts ≡ Some (k, us) → P left ts → drawn (c k) (d left) us ≡ mapped d (turn k left us))
    (keeps : (k : K) (left : A) (ts us : List Symbol) → past test ts ≡ Some (k, us) → P left ts → (b : A) (vs : List Symbol) → turn k left us ≡ Ok (b, vs) → P b vs) where
  turned_more_is : (n : ℕ) (left : A) (ts : List Symbol) → P left ts → more turned drawn n (d left) ts ≡ mapped d (many test turn n left ts)
  unfolding many give after
  turned_more_is zero left ts p = refl
  turned_more_is (suc n) left ts p =
      either_turned test turned c same_test (λ k. after (turn k left) (many test turn n)) (give left) (λ k us. then_read (drawn k (d left) us) (more turned drawn n)) (Ok (d left, ts)) d ts
      (λ k us e.
      ap (λ x. then_read x (more turned drawn n)) (same k left ts us e p)
      ∙ mapped_then (turn k left us) d (many test turn n) (more turned drawn n) d (λ a vs q. turned_more_is n a vs (keeps k left ts us e p a vs q)))
      refl

  pub turned_all_is : (left : A) (ts : List Symbol) → P left ts → all_more turned drawn (d left) ts ≡ mapped d (all test turn left ts)
  unfolding all all_more
  turned_all_is left ts p = turned_more_is (length ts) left ts p

module _ {A D K : Type 0} (test : Symbol → Option K) (turn : K → A → Reader Symbol A) (drawn : K → D → Reader Symbol D) (d : A → D) (P : A → List Symbol → Type 0)
    (same : (k : K) (left : A) (ts us : List Symbol) → past test ts ≡ Some (k, us) → P left ts → drawn k (d left) us ≡ mapped d (turn k left us))
    (keeps : (k : K) (left : A) (ts us : List Symbol) → past test ts ≡ Some (k, us) → P left ts → (b : A) (vs : List Symbol) → turn k left us ≡ Ok (b, vs) → P b vs) where
  same_token : (o : Option K) → o ≡ option_map (λ k. k) o
  same_token None = refl
  same_token (Some k) = refl

  pub all_is : (left : A) (ts : List Symbol) → P left ts → all_more test drawn (d left) ts ≡ mapped d (all test turn left ts)
  all_is = turned_all_is test test (λ k. k) (λ x. same_token (test x)) turn drawn d P same keeps

-- ---- At a place

-- what a reader of drafts is to the grammar's
abbrev pub Draws : {A D : Type 0} → (end : ℕ) → (ℕ → A → D) → Reader Symbol D → Reader Symbol A → Type 0
Draws end draft q p = (ts : List Symbol) → length ts ≤ end → q ts ≡ mapped (draft (end - length ts)) (p ts)

-- so many tokens stand between this number and those that are left
pub record Placed (end p n : ℕ) (ts : List Symbol) : Type 0 where
  pub within : length ts ≤ end
  pub place : end - length ts ≡ p + n

-- behind what was read to here, where more of it was read
pub placed_on : {end p : ℕ} {ts us : List Symbol} (fs bs : List Symbol) → Placed end p (length fs) ts → fs ++ ts ≡ bs ++ us → Placed end p (length bs) us
placed_on {end} {p} {ts} {us} fs bs here whole =
    let le = here.within in
    let e = here.place in
    let count = ap length whole in
    let before = length-append fs ts in
    let behind = length-append bs us in
    record { within = omega arith; place = omega arith }

pub lifted : {A B D : Type 0} (x : Read Symbol A) (c : A → B) (d : A → D) (e : B → D) → ((a : A) → e (c a) ≡ d a) → mapped e (then_read x (λ a. give (c a))) ≡ mapped d x
unfolding give
lifted (Ok x) c d e h = ap (λ b. Ok (b, x.1)) (h x.0)
lifted (Err (At ts)) c d e h = refl
lifted (Err Deep) c d e h = refl

pub then_past : {D : Type 0} (o : Option (ℕ × List Symbol)) (ts : List Symbol) (f : ℕ → Reader Symbol D) → then_read (on_past o (λ by us. Ok (by, us)) (Err (At ts))) f ≡ on_past o f (Err (At ts))
then_past None ts f = refl
then_past (Some p) ts f = refl

pub at_number : (symbols : List code.Symbol) (n : ℕ) → n ≤ length symbols → length symbols - length (drop n (map seen symbols)) ≡ n
at_number symbols n le =
    let all : length (map seen symbols) ≡ length symbols = length-map symbols seen in
    let m = length-drop n (map seen symbols) in
    omega (arith, le, all, m)

pub no_longer : (symbols : List code.Symbol) (n : ℕ) → length (drop n (map seen symbols)) ≤ length symbols
no_longer symbols n =
    let all : length (map seen symbols) ≡ length symbols = length-map symbols seen in
    let m = length-drop n (map seen symbols) in
    omega (arith, all, m)
