-- Lines of data, and that a text has at most one of them at its beginning.
use Rattle.std.proofs.Common.{◌≡◌, ◌≢◌, ◌<◌, ◌^◌, ℕ, zero, suc, ℤ, pos, negsuc, List, [], ◌∷◌, ◌++◌, length, drop, get_or, refl, sym, ap, subst, ◌∙◌, arith, rules, decimal, Option, Some, None}
use Rattle.std.specs.Fmt.{signed_decimal}
use Rattle.std.specs.Prelude.{IsTrue, codes, All, int_le, nat_lt, ◌&&◌, ◌≤ℤ◌, FitsSigned, MatchOption, SomeIff}
use Rattle.std.proofs.lemmas.Bool.{and_parts}
use Rattle.std.proofs.lemmas.Bool.Decides.{nat_tests}
use Rattle.std.proofs.lemmas.List.{append_cancel_left}
use Rattle.std.proofs.lemmas.Int.{ints}
use mir.Syntax.{w64}
use denote.Ref.{Bor}
use Rattle.std.specs.Prelude.{Vec, vec_len}
use Rattle.std.specs.declared.alloc.Global.{Global}
use Rattle.affc_ast.specs.Index.{is_int64}
use Rattle.affc_lex.specs.Bytes.{is_digit}
use Rattle.affc_interp.specs.DataText.{spaced, EndsLine, NumberLine, ArrayLine}
use Rattle.affc_interp.specs.Scans.{NoDigit, IsInteger, NoInteger, IsSpaced, NoSpaced, SpacedTo, IsSpacedList, OneNumberLine}
use Rattle.affc_interp.proofs.Numerals.{one_natural, one_integer, small_positive, small_negative}

-- ---- Ends of lines

pub ended : (behind rest : List ℕ) → EndsLine behind rest → NoDigit behind
ended [] rest e = refl
ended (b ∷ bs) rest e = ap is_digit e.0

pub one_end : (behind rest more : List ℕ) → EndsLine behind rest → EndsLine behind more → rest ≡ more
one_end [] rest more e f = e ∙ sym f
one_end (b ∷ bs) rest more e f = sym e.1 ∙ f.1

not_space : (behind rest more : List ℕ) → EndsLine behind rest → behind ≡ 32 ∷ more → ⊥
not_space [] rest more e f = omega (arith, ap length f)
not_space (b ∷ bs) rest more e f = omega (arith, e.0, ap (λ l. get_or l 0 0) f)

-- ---- Numbers

below_all : (n : ℕ) → n < 2 ^ 63 → IsTrue (nat_lt n (2 ^ 63))
below_all n h = grind (arith, nat_tests)

within : (low high : ℤ) → FitsSigned w64 low → FitsSigned w64 high → (z : ℤ) → IsTrue (int_le low z && int_le z high) → IsTrue (is_int64 z)
within low high l h (pos n) w = let p = and_parts (int_le low (pos n)) (int_le (pos n) high) w in let q : pos n ≤ℤ high = grind (arith, ints, p.1) in below_all n (omega (arith, ints))
within low high l h (negsuc n) w = let p = and_parts (int_le low (negsuc n)) (int_le (negsuc n) high) w in let q : low ≤ℤ negsuc n = grind (arith, ints, p.0) in below_all n (omega (arith, ints))

pub fits_so : (z : ℤ) → IsTrue (is_int64 z) → FitsSigned w64 z
fits_so (pos n) h = let s : n < 2 ^ 63 = small_positive n h in search (rules, ints)
fits_so (negsuc n) h = let s : n < 2 ^ 63 = small_negative n h in search (rules, ints)

-- what an attempt to read a number's line has found
module _ (name : List ℕ) (low high : ℤ) (text signed digits behind : List ℕ) where
  abbrev pub Named : Type 0
  Named = text ≡ codes "param " ++ (name ++ signed)

  abbrev pub NoLine : Type 0
  NoLine = (z : ℤ) (rest : List ℕ) → NumberLine name low high text z rest → ⊥

  pub unnamed : ((rest : List ℕ) → text ≢ codes "param " ++ (name ++ rest)) → NoLine
  unnamed h z rest p = h (codes " " ++ (signed_decimal z ++ p.1.0)) p.1.1

  behind_name : Named → (z : ℤ) (rest : List ℕ) → (p : NumberLine name low high text z rest) → signed ≡ codes " " ++ (signed_decimal z ++ p.1.0)
  behind_name e z rest p = append_cancel_left name signed _ (append_cancel_left (codes "param ") (name ++ signed) _ (sym e ∙ p.1.1))

  pub unspaced : Named → ((rest : List ℕ) → signed ≢ codes " " ++ rest) → NoLine
  unspaced e h z rest p = h (signed_decimal z ++ p.1.0) (behind_name e z rest p)

  module _ (named : Named) (space : signed ≡ codes " " ++ digits) (l : FitsSigned w64 low) (h : FitsSigned w64 high) where
    there : (z : ℤ) (rest : List ℕ) → (p : NumberLine name low high text z rest) → IsInteger digits z p.1.0
    there z rest p = (within low high l h z p.0, ended p.1.0 rest p.1.2, append_cancel_left (codes " ") digits _ (sym space ∙ behind_name named z rest p))

    pub unnumbered : NoInteger digits → NoLine
    unnumbered none z rest p = none z p.1.0 (there z rest p)

    pub unended : (y : ℤ) → IsInteger digits y behind → ((rest : List ℕ) → EndsLine behind rest → ⊥) → NoLine
    unended y q none z rest p =
        let u = one_integer digits y z behind p.1.0 q (there z rest p) in
        none rest (subst (λ b. EndsLine b rest) (sym u.1) p.1.2)

    pub outside : (y : ℤ) → IsInteger digits y behind → (IsTrue (int_le low y && int_le y high) → ⊥) → NoLine
    outside y q out z rest p =
        let u = one_integer digits y z behind p.1.0 q (there z rest p) in
        out (subst (λ x. IsTrue (int_le low x && int_le x high)) (sym u.0) p.0)

    line_here : (y : ℤ) (rest : List ℕ) → IsInteger digits y behind → EndsLine behind rest → IsTrue (int_le low y && int_le y high) → NumberLine name low high text y rest
    line_here y rest q end range = (range, (behind, named ∙ ap (λ s. codes "param " ++ (name ++ s)) (space ∙ ap (λ d. codes " " ++ d) q.2), end))

    pub only_line : (y : ℤ) (rest : List ℕ) → IsInteger digits y behind → EndsLine behind rest → IsTrue (int_le low y && int_le y high) → OneNumberLine name low high text y rest
    only_line y rest q end range = (
      line_here y rest q end range,
      (λ z more p.
          let u = one_integer digits y z behind p.1.0 q (there z more p) in
          (u.0, one_end behind rest more end (subst (λ b. EndsLine b more) (sym u.1) p.1.2))),
    )

-- a text has at most one line of a number at its beginning
pub one_number_line : (name : List ℕ) (low high : ℤ) (text : List ℕ) (y z : ℤ) (rest more : List ℕ) → FitsSigned w64 low → FitsSigned w64 high
    → NumberLine name low high text y rest → NumberLine name low high text z more → (y ≡ z) × (rest ≡ more)
one_number_line name low high text y z rest more l h p q =
    let digits = signed_decimal y ++ p.1.0 in
    let mine : IsInteger digits y p.1.0 = (within low high l h y p.0, ended p.1.0 rest p.1.2, refl) in
    let u = one_integer digits y z p.1.0 q.1.0 mine (there name low high text (codes " " ++ digits) digits p.1.0 p.1.1 refl l h z more q) in
    (u.0, one_end p.1.0 rest more p.1.2 (subst (λ b. EndsLine b more) (sym u.1) q.1.2))

-- ---- Numbers with a space before each

pub spaced_push : (text : List ℕ) (vs : List ℕ) (rest next : List ℕ) (v : ℕ) → SpacedTo text vs rest → IsSpaced rest v next → SpacedTo text (vs ++ v ∷ []) next
spaced_push text [] rest next v p q = (next, subst (λ t. IsSpaced t v next) (sym p) q, refl)
spaced_push text (w ∷ vs) rest next v p q = (p.0, p.1, spaced_push p.0 vs rest next v p.2 q)

pub spaced_text : (text : List ℕ) (vs : List ℕ) (rest : List ℕ) → SpacedTo text vs rest → text ≡ spaced vs rest
spaced_text text [] rest p = p
spaced_text text (v ∷ vs) rest p = p.1.2 ∙ ap (λ t. 32 ∷ (decimal v ++ t)) (spaced_text p.0 vs rest p.2)

no_digit_behind : (vs behind rest : List ℕ) → EndsLine behind rest → NoDigit (spaced vs behind)
no_digit_behind [] behind rest e = ended behind rest e
no_digit_behind (v ∷ vs) behind rest e = refl

one_list : (text vs rest ws behind more : List ℕ) → SpacedTo text vs rest → NoSpaced rest → All (λ v. v < 2 ^ 64) ws → EndsLine behind more → text ≡ spaced ws behind → (vs ≡ ws) × (rest ≡ behind)
one_list text [] rest [] behind more p none small end e = (refl, sym p ∙ e)
one_list text [] rest (w ∷ ws) behind more p none small end e = absurd (none w (spaced ws behind) (small 0 w (omega arith), no_digit_behind ws behind more end, sym p ∙ e))
one_list text (v ∷ vs) rest [] behind more p none small end e = absurd (not_space behind more (decimal v ++ p.0) end (sym e ∙ p.1.2))
one_list text (v ∷ vs) rest (w ∷ ws) behind more p none small end e =
    let u = one_natural (drop 1 text) v w p.0 (spaced ws behind) (p.1.0, p.1.1, ap (drop 1) p.1.2) (small 0 w (omega arith), no_digit_behind ws behind more end, ap (drop 1) e) in
    let further = one_list p.0 vs rest ws behind more p.2 none (λ k d lt. small (suc k) d (omega arith)) end u.1 in
    ((λ i. u.0 i ∷ further.0 i), further.1)

all_cons : (v : ℕ) (vs : List ℕ) → v < 2 ^ 64 → All (λ x. x < 2 ^ 64) vs → All (λ x. x < 2 ^ 64) (v ∷ vs)
all_cons v vs p q zero d lt = p
all_cons v vs p q (suc k) d lt = q k d (omega arith)

pub spaced_small : (text : List ℕ) (vs : List ℕ) (rest : List ℕ) → SpacedTo text vs rest → All (λ v. v < 2 ^ 64) vs
spaced_small text [] rest p = λ k d lt. absurd (omega arith)
spaced_small text (v ∷ vs) rest p = all_cons v vs p.1.0 (spaced_small p.0 vs rest p.2)

-- ---- Lines of arrays

wanted_one : (wanted : Option ℕ) (n m : ℕ) → n ≡ m → n < 2 ^ 64 → SomeIff wanted (m < 2 ^ 64) m → wanted ≡ Some n
wanted_one None n m e small w = absurd (w (omega arith))
wanted_one (Some k) n m e small w = ap Some (w.1 ∙ sym e)

some_one : (wanted : Option ℕ) (n m : ℕ) → wanted ≡ Some n → SomeIff wanted (m < 2 ^ 64) m → n ≡ m
some_one None n m e w = cc
some_one (Some k) n m e w = let same : k ≡ n = cc in sym same ∙ w.1

module _ (name text inner : List ℕ) where
  abbrev pub NoArray : (count : ℕ) → Type 0
  NoArray count = (vs rest : List ℕ) → ArrayLine name count text vs rest → ⊥

  pub no_array_name : ((rest : List ℕ) → text ≢ codes "array " ++ (name ++ rest)) → (count : ℕ) → NoArray count
  no_array_name h count vs rest p = h (spaced vs p.2.0) p.2.1

  module _ (named : text ≡ codes "array " ++ (name ++ inner)) (vs behind : List ℕ) (found : IsSpacedList inner vs behind) where
    same_values : (count : ℕ) (ws rest : List ℕ) → (p : ArrayLine name count text ws rest) → (vs ≡ ws) × (behind ≡ p.2.0)
    same_values count ws rest p =
        one_list inner vs behind ws p.2.0 rest found.0 found.1 p.1 p.2.2 (append_cancel_left name inner (spaced ws p.2.0) (append_cancel_left (codes "array ") (name ++ inner) _ (sym named ∙ p.2.1)))

    pub no_array_end : (wanted : Option ℕ) (n : ℕ) → n ≡ length vs → n < 2 ^ 64 → ((rest : List ℕ) → wanted ≡ Some n → EndsLine behind rest → ⊥) → (m : ℕ) → SomeIff wanted (m < 2 ^ 64) m → NoArray m
    no_array_end wanted n is small none m w ws rest p =
        let u = same_values m ws rest p in
        let same : n ≡ m = is ∙ ap length u.0 ∙ p.0 in
        none rest (wanted_one wanted n m same small w) (subst (λ b. EndsLine b rest) (sym u.1) p.2.2)

    pub array_here : (wanted : Option ℕ) (n : ℕ) (rest : List ℕ) → n ≡ length vs → wanted ≡ Some n → EndsLine behind rest → (m : ℕ) → SomeIff wanted (m < 2 ^ 64) m → ArrayLine name m text vs rest
    array_here wanted n rest is e end m w =
        (sym is ∙ some_one wanted n m e w, spaced_small inner vs behind found.0, (behind, named ∙ ap (λ l. codes "array " ++ (name ++ l)) (spaced_text inner vs behind found.0), end))

-- a list and the end of its line, as they are found from the front
to_spaced : (vs behind rest : List ℕ) → All (λ v. v < 2 ^ 64) vs → EndsLine behind rest → SpacedTo (spaced vs behind) vs behind
to_spaced [] behind rest small end = refl
to_spaced (v ∷ vs) behind rest small end = (spaced vs behind, (small 0 v (omega arith), no_digit_behind vs behind rest end, refl), to_spaced vs behind rest (λ k d lt. small (suc k) d (omega arith)) end)

nothing_spaced : (behind rest : List ℕ) → EndsLine behind rest → NoSpaced behind
nothing_spaced behind rest end v more p = not_space behind rest (decimal v ++ more) end p.2

pub one_array_line : (name : List ℕ) (n : ℕ) (text vs rest ws more : List ℕ) → ArrayLine name n text vs rest → ArrayLine name n text ws more → (vs ≡ ws) × (rest ≡ more)
one_array_line name n text vs rest ws more p q =
    let u = same_values name text (spaced vs p.2.0) p.2.1 vs p.2.0 (to_spaced vs p.2.0 rest p.1 p.2.2, nothing_spaced p.2.0 rest p.2.2) n ws more q in
    (u.0, one_end p.2.0 rest more p.2.2 (subst (λ b. EndsLine b more) (sym u.1) q.2.2))

-- ---- A word and a name

pub named_either : (word name bytes text inner : List ℕ) (found : Option (Bor (List ℕ))) → bytes ≡ name → text ≡ word ++ inner
    → MatchOption found ((rest : List ℕ) → inner ≢ bytes ++ rest) (λ x. inner ≡ bytes ++ x.now)
    → MatchOption found ((rest : List ℕ) → text ≢ word ++ (name ++ rest)) (λ x. text ≡ word ++ (name ++ x.now))
named_either word name bytes text inner None is e h = λ rest f. h rest (append_cancel_left word inner (name ++ rest) (sym e ∙ f) ∙ ap (λ b. b ++ rest) (sym is))
named_either word name bytes text inner (Some x) is e h = e ∙ ap (λ l. word ++ l) (h ∙ ap (λ b. b ++ x.now) is)

pub as_many : (values : Vec ℕ Global) (n : ℕ) → n ≡ vec_len values → n ≡ length values.items
as_many values n e = omega (arith, values.ok.0)
