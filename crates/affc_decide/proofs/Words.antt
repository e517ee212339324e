-- The words of a text, found one by one.
use Rattle.std.proofs.Common.{◌≡◌, ◌∙◌, ◌+◌, ◌<◌, ◌≤◌, ℕ, zero, suc, List, [], ◌∷◌, ◌++◌, length, take, drop, get_or, true, false, refl, sym, ap, ap₂, subst, arith, Bor}
use Rattle.std.proofs.Math.Seq.{drop-cons, take-suc}
use Rattle.std.proofs.Math.ListN.{drop_of_length-le}
use Rattle.std.proofs.lemmas.List.{append-nil, take-append-drop, length-take-le}
use Rattle.std.proofs.lemmas.List.Elements.{All-push}
use Rattle.std.specs.Char.{is_ascii_whitespace}
use Rattle.std.specs.List.{All}
use Rattle.affc_decide.specs.Words.{AreWords, AllSpaces, NoSpaces, EndsSpaces, IsWord, EndsWord, IsFirstWord, texts_of}

pub one_more : (P : ℕ → Type 0) (text : List ℕ) (at : ℕ) → at < length text → All P (take at text) → P (get_or text at 0) → All P (take (at + 1) text)
one_more P text at within all holds =
    let next : suc at ≡ at + 1 = omega arith in
    subst (λ (k : ℕ). All P (take k text)) next (subst (λ (l : List ℕ). All P l) (sym (take-suc text at 0 within)) (All-push P (take at text) (get_or text at 0) all holds))

pub begins : (text : List ℕ) (at : ℕ) → at < length text → is_ascii_whitespace (get_or text at 0) ≡ false → EndsSpaces (drop at text)
begins text at within letter = subst (λ (l : List ℕ). EndsSpaces l) (sym (drop-cons text at 0 within)) letter

pub ends : (text : List ℕ) (at : ℕ) → at < length text → is_ascii_whitespace (get_or text at 0) ≡ true → EndsWord (drop at text)
ends text at within space = subst (λ (l : List ℕ). EndsWord l) (sym (drop-cons text at 0 within)) space

pub nothing_begins : (text : List ℕ) (at : ℕ) → length text ≤ at → EndsSpaces (drop at text)
nothing_begins text at past = subst (λ (l : List ℕ). EndsSpaces l) (sym (drop_of_length-le text past)) tt

true_is_false : true ≡ false → ⊥
true_is_false e = cc

empty : (text : List ℕ) → length text ≡ 0 → text ≡ []
empty [] none = refl
empty (b ∷ text) none = absurd (omega (arith, none))

texts_push : (found : List (Bor (List ℕ))) (word : Bor (List ℕ)) (more : List (List ℕ)) → texts_of (found ++ word ∷ []) ++ more ≡ texts_of found ++ word.now ∷ more
texts_push [] word more = refl
texts_push (w ∷ found) word more = ap (λ (ws : List (List ℕ)). w.now ∷ ws) (texts_push found word more)

some_letter : (behind : List ℕ) (n : ℕ) → 0 < length behind → EndsSpaces behind → EndsWord (drop n behind) → 0 < n
some_letter [] n some begin end = absurd (omega (arith, some))
some_letter (b ∷ rest) zero some begin end = absurd (true_is_false (sym end ∙ begin))
some_letter (b ∷ rest) (suc n) some begin end = omega arith

pub first : (text behind word rest : List ℕ) (g n : ℕ) → AllSpaces (take g text) → behind ≡ drop g text → EndsSpaces behind → 0 < length behind → n ≤ length behind → NoSpaces (take n behind) → EndsWord (drop n behind) → word ≡ take n behind → rest ≡ drop n behind
    → IsFirstWord text word rest
first text behind word rest g n spaces is begin some within letters end is_word is_rest =
    let long : length (take n behind) ≡ n = length-take-le n behind within in
    let more = some_letter behind n some begin end in (
      take g text,
      sym (ap₂ (λ (w r : List ℕ). take g text ++ (w ++ r)) is_word is_rest ∙ ap (λ (l : List ℕ). take g text ++ l) (take-append-drop n behind ∙ is) ∙ take-append-drop g text),
      spaces,
      subst (λ (w : List ℕ). IsWord w) (sym is_word) (omega (arith, long, more), letters),
      subst (λ (r : List ℕ). EndsWord r) (sym is_rest) end,
    )

-- the words found so far stand before those of the rest
abbrev pub Precede : List ℕ → List (List ℕ) → List ℕ → Type 0
Precede text found rest = (more : List (List ℕ)) → AreWords rest more → AreWords text (found ++ more)

pub none_found : (text : List ℕ) → Precede text [] text
none_found text more words = words

pub one_found : (text rest behind : List ℕ) (found : List (Bor (List ℕ))) (word : Bor (List ℕ)) → Precede text (texts_of found) rest → IsFirstWord rest word.now behind → Precede text (texts_of (found ++ word ∷ [])) behind
one_found text rest behind found word before is more words =
    subst (λ (ws : List (List ℕ)). AreWords text ws) (sym (texts_push found word more)) (before (word.now ∷ more) (behind, is, words))

pub all_found : (text rest : List ℕ) (found : List (List ℕ)) → Precede text found rest → AllSpaces rest → AreWords text found
all_found text rest found before spaces = subst (λ (ws : List (List ℕ)). AreWords text ws) (append-nil found) (before [] spaces)
