-- A row of one end that follows beside the other end.
use Rattle.std.proofs.Common.{◌≡◌, List, [], ◌∷◌, length, ℤ, pos, negsuc, refl, arith}
use Rattle.std.specs.List.{All, Contains}
use Rattle.std.proofs.lemmas.Int.{ints}
use Rattle.std.proofs.lemmas.List.Elements.{All-nil, All-cons}
use Rattle.affc_system.specs.Systems.{Meets}
use Rattle.affc_loopends.specs.Examples.{from_zero, from_half, up_to_sum, BesideTheOtherEnd, NotByOneEnd}

implied : (n s t : ℤ) → Meets (n ∷ s ∷ t ∷ []) up_to_sum → Meets (n ∷ s ∷ t ∷ []) from_half → Meets (n ∷ s ∷ t ∷ []) from_zero
implied n s t h b = omega (arith, ints)

pub beside_the_other_end : BesideTheOtherEnd
beside_the_other_end = record {
  few = omega arith;
  among = All-cons (Contains (from_zero ∷ from_half ∷ [])) from_half [] (1, omega arith, refl) (All-nil (Contains (from_zero ∷ from_half ∷ [])));
  imply = λ whole l b m. met whole l (b 0 up_to_sum (omega arith)) (m 0 from_half (omega arith));
}
  where
    met : (whole : List ℤ) → length whole ≡ 3 → Meets whole up_to_sum → Meets whole from_half → All (Meets whole) (from_zero ∷ from_half ∷ [])
    met [] l h b = absurd (omega arith)
    met (n ∷ []) l h b = absurd (omega arith)
    met (n ∷ s ∷ []) l h b = absurd (omega arith)
    met (n ∷ s ∷ t ∷ u ∷ whole) l h b = absurd (omega arith)
    met (n ∷ s ∷ t ∷ []) l h b =
        All-cons (Meets (n ∷ s ∷ t ∷ [])) from_zero (from_half ∷ []) (implied n s t h b) (All-cons (Meets (n ∷ s ∷ t ∷ [])) from_half [] b (All-nil (Meets (n ∷ s ∷ t ∷ []))))

abbrev below : List ℤ
below = pos 0 ∷ negsuc 1 ∷ negsuc 0 ∷ []

pub not_by_one_end : NotByOneEnd
not_by_one_end h = past (h.imply below refl (All-nil (Meets below)) (All-cons (Meets below) from_half [] (omega (arith, ints)) (All-nil (Meets below))) 0 from_zero (omega arith))
  where
    past : Meets below from_zero → ⊥
    past h = absurd (omega (arith, ints))
