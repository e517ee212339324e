-- What a sink has taken grows piece by piece.
use Rattle.std.proofs.Common.{◌≡◌, ◌+◌, ◌-◌, ◌++◌, ℕ, List, length, Option, None, Some, take, drop, refl, ap, sym, ◌∙◌, append_assoc, arith, length-drop}
use Rattle.std.proofs.Math.Seq.{take-add}
use Rattle.std.proofs.lemmas.List.{take_all, take-append-drop}
use Rattle.affc_io.specs.Front.{IsFront}
use Rattle.affc_io.specs.Taken.{grown}

pub grown-grown : (o : Option (List ℕ)) (a b : List ℕ) → grown (grown o a) b ≡ grown o (a ++ b)
grown-grown None a b = refl
grown-grown (Some x) a b = ap Some (append_assoc x a b)

-- the first m bytes of a piece, and then n of the rest
pub grown-part : (o : Option (List ℕ)) (bytes : List ℕ) (m n : ℕ)
    → grown (grown o (take m bytes)) (take n (drop m bytes)) ≡ grown o (take (m + n) bytes)
grown-part o bytes m n = grown-grown o (take m bytes) (take n (drop m bytes)) ∙ ap (grown o) (sym (take-add m n bytes))

-- what `&bytes[m..]` is
rest_of : (bytes : List ℕ) (m : ℕ) → take (length bytes - m) (drop m bytes) ≡ drop m bytes
rest_of bytes m = take_all (length bytes - m) (drop m bytes) (omega (arith, length-drop m bytes))

-- the same for a write of n bytes of `&bytes[m..]`
pub grown-next : (o now next : Option (List ℕ)) (bytes : List ℕ) (m n : ℕ)
    → now ≡ grown o (take m bytes) → next ≡ grown now (take n (take (length bytes - m) (drop m bytes))) → next ≡ grown o (take (m + n) bytes)
grown-next o now next bytes m n before after =
    after ∙ ap (λ x. grown now (take n x)) (rest_of bytes m) ∙ ap (λ x. grown x (take n (drop m bytes))) before ∙ grown-part o bytes m n

pub front-take : (bytes : List ℕ) (n : ℕ) → IsFront bytes (take n bytes)
front-take bytes n = (drop n bytes, take-append-drop n bytes)

pub front-within : (bytes more front : List ℕ) → IsFront bytes front → IsFront (bytes ++ more) front
front-within bytes more front f = (f.0 ++ more, sym (append_assoc front f.0 more) ∙ ap (λ x. x ++ more) f.1)
