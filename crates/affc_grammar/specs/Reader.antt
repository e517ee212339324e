-- Readers: from a list of tokens, by the first one that is left. They are for any kind of tokens.
use Rattle.std.specs.Prelude.{◌≡◌, ℕ, zero, suc, ◌≤◌, List, [], ◌∷◌, ◌++◌, length, Option, Some, None, Result, Ok, Err}

-- where reading stops: before these tokens, or with too many brackets open
pub data Stop (T : Type 0) : Type 0 where
  At : List T → Stop T
  Deep : Stop T

-- what is read, with the tokens behind it
abbrev pub Read : Type 0 → Type 0 → Type 0
Read T A = Result (A × List T) (Stop T)

abbrev pub Reader : Type 0 → Type 0 → Type 0
Reader T A = List T → Read T A

abbrev pub then_read : {T A B : Type 0} → Read T A → (A → Reader T B) → Read T B
then_read (Ok x) f = f x.0 x.1
then_read (Err (At ts)) f = Err (At ts)
then_read (Err Deep) f = Err Deep

abbrev pub on_some : {K B : Type 0} → Option K → (K → B) → B → B
on_some None past other = other
on_some (Some k) past other = past k

-- this, and no token
unfoldable pub give : {T A : Type 0} → A → Reader T A
give a ts = Ok (a, ts)

unfoldable pub fail : {T A : Type 0} → Reader T A
fail ts = Err (At ts)

unfoldable pub deep : {T A : Type 0} → Reader T A
deep ts = Err Deep

-- one reader, and behind it another
unfoldable pub after : {T A B : Type 0} → Reader T A → (A → Reader T B) → Reader T B
after p f ts = then_read (p ts) f

-- past a first token that passes the test, or from it on
unfoldable pub either : {T A K : Type 0} → (T → Option K) → (K → Reader T A) → Reader T A → Reader T A
either test past other [] = other []
either test past other (x ∷ ts) = on_some (test x) (λ k. past k ts) (other (x ∷ ts))

-- past a first token that passes the test
abbrev pub on : {T A K : Type 0} → (T → Option K) → (K → Reader T A) → Reader T A
on test past = either test past fail

-- again and again past a token that passes the test, at most so many times
unfoldable pub many : {T A K : Type 0} → (T → Option K) → (K → A → Reader T A) → ℕ → A → Reader T A
many test turn zero left = give left
many test turn (suc n) left = either test (λ k. after (turn k left) (many test turn n)) (give left)

-- as often as it can be
unfoldable pub all : {T A K : Type 0} → (T → Option K) → (K → A → Reader T A) → A → Reader T A
all test turn left ts = many test turn (length ts) left ts

-- what a turn gives: something to go on with, or the whole
pub data Turn (A C : Type 0) : Type 0 where
  going : A → Turn A C
  done : C → Turn A C

-- behind a turn
abbrev pub and_on : {T A C : Type 0} → (A → Reader T C) → Turn A C → Reader T C
and_on again (going a) = again a
and_on again (done c) = give c

-- again and again past a token that passes the test, until the whole is read
unfoldable pub tries : {T A C K : Type 0} → (T → Option K) → (K → A → Reader T (Turn A C)) → ℕ → A → Reader T C
tries test turn zero left = fail
tries test turn (suc n) left = on test (λ k. after (turn k left) (and_on (tries test turn n)))

unfoldable pub until : {T A C K : Type 0} → (T → Option K) → (K → A → Reader T (Turn A C)) → A → Reader T C
until test turn left ts = tries test turn (length ts) left ts

-- behind a bracket that was opened where so many could be
unfoldable pub inside : {T A : Type 0} → (ℕ → Reader T A) → ℕ → Reader T A
inside p zero = deep
inside p (suc room) = p room

-- this, at the end of the text
unfoldable pub finished : {T A : Type 0} → A → Reader T A
finished a [] = Ok (a, [])
finished a (x ∷ ts) = Err (At (x ∷ ts))

-- Counting open brackets: `next n t` are open behind the token where n were open before.
-- at most `limit` are open at any time, where n are open now
abbrev pub Within : {T : Type 0} → (ℕ → T → ℕ) → (limit n : ℕ) → List T → Type 0
Within next limit n [] = n ≤ limit
Within next limit n (t ∷ ts) = (n ≤ limit) × Within next limit (next n t) ts

-- What any reader by the first token obeys: what is left is an end of what was given, and nothing past the first token that is left was looked at.
pub record IsReader {T A : Type 0} (p : Reader T A) : Type 0 where
  pub ok_left : (ts : List T) (a : A) (rest : List T) → p ts ≡ Ok (a, rest) → (used : List T) × (ts ≡ used ++ rest)
  pub at_left : (ts rest : List T) → p ts ≡ Err (At rest) → (used : List T) × (ts ≡ used ++ rest)
  pub ok_same : (xs : List T) (t : T) (ys zs w : List T) (a : A) → p (xs ++ t ∷ ys) ≡ Ok (a, w ++ t ∷ ys) → p (xs ++ t ∷ zs) ≡ Ok (a, w ++ t ∷ zs)
  pub at_same : (xs : List T) (t : T) (ys zs w : List T) → p (xs ++ t ∷ ys) ≡ Err (At (w ++ t ∷ ys)) → p (xs ++ t ∷ zs) ≡ Err (At (w ++ t ∷ zs))
