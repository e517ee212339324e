-- The first of a list of places, and the least.
use Rattle.std.specs.Prelude.{ℕ, nat_le, Bool, true, false, ◌&&◌, ◌||◌, List, [], ◌∷◌, Option, Some, None, if◌then◌else◌}
use Rattle.affc_grammar.specs.Draft as d
use Rattle.affc_grammar.specs.Limits.{products_in, holds_names}
use Rattle.affc_limits.specs.declared.forms.Behind.{Behind}
use Rattle.affc_limits.specs.declared.forms.Factors.{Factors}

abbrev pub first : List ℕ → Option ℕ
first [] = None
first (n ∷ ns) = Some n

abbrev pub first_of : Option ℕ → Option ℕ → Option ℕ
first_of None other = other
first_of (Some n) other = Some n

abbrev pub lesser : Option ℕ → Option ℕ → Option ℕ
lesser None other = other
lesser (Some n) None = Some n
lesser (Some n) (Some m) = if nat_le n m then Some n else Some m

abbrev pub least : List ℕ → Option ℕ
least [] = None
least (n ∷ ns) = lesser (Some n) (least ns)

abbrev pub place_if : Bool → ℕ → Option ℕ
place_if true at = Some at
place_if false at = None

-- What the rule on products asks of an expression.

abbrev pub products : d.IxDraft → Factors
products e = record { has_names = holds_names e; first_refused = first (products_in e) }

-- of an expression without operators
abbrev pub atom : (has_names : Bool) → Factors
atom b = record { has_names = b; first_refused = None }

-- of two parts
abbrev pub both_products : Factors → Factors → Factors
both_products a b = record { has_names = a.has_names || b.has_names; first_refused = first_of a.first_refused b.first_refused }

-- of the two sides of a product
abbrev pub product_products : ℕ → Factors → Factors → Factors
product_products at a b = record { has_names = a.has_names || b.has_names; first_refused = first_of (first_of a.first_refused (place_if (a.has_names && b.has_names) at)) b.first_refused }

-- of an operand and of what stands behind it
abbrev pub closed : Factors → Behind → Factors
closed a k = record { has_names = a.has_names || k.has_names; first_refused = first_of a.first_refused (if a.has_names then k.if_named else k.if_bare) }

-- behind the operand stands one part more
abbrev pub before_part : Factors → Behind → Behind
before_part a k = record { has_names = a.has_names || k.has_names; if_named = first_of a.first_refused k.if_named; if_bare = (closed a k).first_refused }

-- and a "*" in front of it
abbrev pub before_side : ℕ → Factors → Behind → Behind
before_side at a k = record { has_names = a.has_names || k.has_names; if_named = first_of (place_if a.has_names at) (first_of a.first_refused k.if_named); if_bare = (closed a k).first_refused }

-- with the places of one thing more
abbrev pub with_places : {B : Type 0} → (B → List ℕ) → Option ℕ → B → Option ℕ
with_places places found b = lesser found (least (places b))
