-- Pairs of elements at the points of systems.
use Rattle.std.proofs.Common.{◌++◌, List, [], ℤ, ◌⊎◌, inl, inr, arith}
use Rattle.std.proofs.lemmas.List.Elements.{Contains-append_left, Contains-append_right, Contains-append_cases}
use Rattle.affc_system.specs.ElementPairs.{IsPairOf}
use Rattle.affc_system.specs.declared.pairs.PairSystem.{PairSystem}

pub pair_of_some : (first second : List PairSystem) (p x y : List ℤ) → IsPairOf (first ++ second) p x y → IsPairOf first p x y ⊎ IsPairOf second p x y
pair_of_some first second p x y h = elim (Contains-append_cases first second h.system h.there) [
  | inl there ↦ inl (record { system = h.system; there = there; either = h.either })
  | inr there ↦ inr (record { system = h.system; there = there; either = h.either })
]

pub pair_of_all : (first second : List PairSystem) (p x y : List ℤ) → IsPairOf first p x y ⊎ IsPairOf second p x y → IsPairOf (first ++ second) p x y
pair_of_all first second p x y h = elim h [
  | inl h ↦ record { system = h.system; there = Contains-append_left first second h.system h.there; either = h.either }
  | inr h ↦ record { system = h.system; there = Contains-append_right first second h.system h.there; either = h.either }
]

pub pair_either : (systems : List PairSystem) (p x y : List ℤ) → IsPairOf systems p x y → IsPairOf systems p y x
pair_either systems p x y h = elim h.either [
  | inl a ↦ record { system = h.system; there = h.there; either = inr a }
  | inr a ↦ record { system = h.system; there = h.there; either = inl a }
]

pub pair_of_none : (p x y : List ℤ) → IsPairOf [] p x y → ⊥
pair_of_none p x y h = omega (arith, h.there.1)
