-- What is said of the tokens as they are shown holds of the tokens themselves.
use Rattle.std.proofs.Common.{◌≡◌, ℕ, Bool, true, false, ◌&&◌, cond, List, [], ◌∷◌, ◌++◌, length, map, codes, refl, sym, ap, ◌∙◌, subst}
use Rattle.std.specs.List.{list_all}
use Rattle.std.proofs.lemmas.Slice.Eq.{bytes_eq-Decides}
use Rattle.affc_lex.specs.declared.token.Kind.{Kind}
use Rattle.affc_lex.specs.declared.token.Kind.TheVariants.{Word, Number, Value, Header, Hash, LineEnd, Prelude, Mark}
use Rattle.affc_lex.specs.Bytes.{same}
use Rattle.affc_lex.specs.Lexes.{Lexeme}
use Rattle.affc_grammar.specs.Grammar.{Symbol, symbol, Text, text_symbols, Refuses, StopsAt}
use Rattle.affc_grammar.specs.Reads.{symbols}
use Rattle.affc_parse.specs.Shown.{shown_bytes, shown}
use Rattle.affc_parse.proofs.TokenBytes.{both}
use Rattle.affc_parse.proofs.Headers.{is_right, AreRight, text_right}

abbrev its_header : List ℕ
its_header = codes "<stdint.h>"

abbrev of_kind : Kind → List ℕ → Symbol
of_kind k bytes = record { kind = k; bytes = bytes }

header_shown : (bytes : List ℕ) → same bytes its_header ≡ true → shown_bytes Header bytes ≡ bytes
header_shown bytes h = ap (λ b. cond b its_header (codes "<>")) h ∙ sym ((bytes_eq-Decides bytes its_header).0 h)

header_right : (bytes : List ℕ) → same (shown_bytes Header bytes) its_header ≡ true → same bytes its_header ≡ true
header_right bytes h = by (same bytes its_header) h
  where
    by : (b : Bool) → same (cond b its_header (codes "<>")) its_header ≡ true → b ≡ true
    by true e = refl
    by false e = absurd (cc)

-- a token is shown as it is, where it is shown as one that a program may have, or is one
same_shown : (k : Kind) (bytes : List ℕ) → is_right (of_kind k (shown_bytes k bytes)) ≡ true → of_kind k (shown_bytes k bytes) ≡ of_kind k bytes
same_shown Word bytes h = refl
same_shown Number bytes h = refl
same_shown Value bytes h = refl
same_shown Header bytes h = ap (of_kind Header) (header_shown bytes (header_right bytes h))
same_shown Hash bytes h = refl
same_shown LineEnd bytes h = refl
same_shown Prelude bytes h = refl
same_shown Mark bytes h = refl

pub same_right : (k : Kind) (bytes : List ℕ) → is_right (of_kind k bytes) ≡ true → of_kind k (shown_bytes k bytes) ≡ of_kind k bytes
same_right Word bytes h = refl
same_right Number bytes h = refl
same_right Value bytes h = refl
same_right Header bytes h = ap (of_kind Header) (header_shown bytes h)
same_right Hash bytes h = refl
same_right LineEnd bytes h = refl
same_right Prelude bytes h = refl
same_right Mark bytes h = refl

pub all_same : (ts : List Lexeme) → AreRight (map shown ts) → map shown ts ≡ symbols ts
all_same [] h = refl
all_same (t ∷ ts) h =
    let p = both (is_right (shown t)) (list_all is_right (map shown ts)) h in
    λ i. same_shown t.kind t.bytes p.0 i ∷ all_same ts p.1 i

-- the tokens of a text of the grammar
pub spelled_back : (ts : List Lexeme) (c : Text) → map shown ts ≡ text_symbols c → symbols ts ≡ text_symbols c
spelled_back ts c e = sym (all_same ts (ap (list_all is_right) e ∙ text_right c)) ∙ e

-- ---- Where a text stops

pub first_right : (xs ys : List Symbol) → AreRight (xs ++ ys) → AreRight xs
first_right [] ys h = refl
first_right (x ∷ xs) ys h =
    let p = both (is_right x) (list_all is_right (xs ++ ys)) h in
    ap (λ b. b && list_all is_right xs) p.0 ∙ first_right xs ys p.1

pub next_right : (xs : List Symbol) (x : Symbol) (ys : List Symbol) → AreRight (xs ++ x ∷ ys) → is_right x ≡ true
next_right [] x ys h = (both (is_right x) (list_all is_right ys) h).0
next_right (z ∷ xs) x ys h = next_right xs x ys (both (is_right z) (list_all is_right (xs ++ x ∷ ys)) h).1

-- tokens split as what is shown of them is
pub record Split (ts : List Lexeme) (before rest : List Symbol) : Type 0 where
  pub front : List Lexeme
  pub back : List Lexeme
  pub joined : ts ≡ front ++ back
  pub is_front : map shown front ≡ before
  pub is_back : map shown back ≡ rest

pub split_of : (ts : List Lexeme) (before rest : List Symbol) → map shown ts ≡ before ++ rest → Split ts before rest
split_of ts [] rest e = record { front = []; back = ts; joined = refl; is_front = refl; is_back = e }
split_of [] (b ∷ before) rest e = absurd (cc)
split_of (t ∷ ts) (b ∷ before) rest e =
    let first : shown t ≡ b = cc in
    let others : map shown ts ≡ before ++ rest = cc in
    let s = split_of ts before rest others in
    record { front = t ∷ s.front; back = s.back; joined = ap (λ l. t ∷ l) s.joined; is_front = λ i. first i ∷ s.is_front i; is_back = s.is_back }

pub symbols-append : (xs ys : List Lexeme) → symbols (xs ++ ys) ≡ symbols xs ++ symbols ys
symbols-append [] ys = refl
symbols-append (x ∷ xs) ys = ap (λ l. symbol x ∷ l) (symbols-append xs ys)

refuses_back : (before : List Symbol) (back : List Lexeme) → Refuses before (map shown back) → Refuses before (symbols back)
refuses_back before [] h = h
refuses_back before (t ∷ ts) h = λ c tail e.
    let right : is_right (symbol t) ≡ true = next_right before (symbol t) tail (ap (list_all is_right) (sym e) ∙ text_right c) in
    h c tail (e ∙ ap (λ x. before ++ x ∷ tail) (sym (same_right t.kind t.bytes right)))

-- The tokens stop where what is shown of them does.
pub record Back (ts : List Lexeme) (at : ℕ) : Type 0 where
  pub rest : List Symbol
  pub stops : StopsAt (symbols ts) rest
  pub at_is : at ≡ length stops.before

pub stops_back : (ts : List Lexeme) (rest : List Symbol) (h : StopsAt (map shown ts) rest) → Back ts (length h.before)
stops_back ts rest h =
    let s = split_of ts h.before rest h.split in
    let right : AreRight h.before = first_right h.before h.begins.1 (ap (list_all is_right) (sym h.begins.2) ∙ text_right h.begins.0) in
    let front : symbols s.front ≡ h.before = sym (all_same s.front (ap (list_all is_right) s.is_front ∙ right)) ∙ s.is_front in
    record {
      rest = symbols s.back;
      stops = record {
        before = h.before;
        split = ap symbols s.joined ∙ symbols-append s.front s.back ∙ ap (λ l. l ++ symbols s.back) front;
        begins = h.begins;
        refuses = refuses_back h.before s.back (subst (Refuses h.before) (sym s.is_back) h.refuses);
      };
      at_is = refl;
    }
