-- The keys of an object, in order by bytes.
use Rattle.serde_json.specs.Data.{Data, Members, no_members, member}
use Rattle.serde_json.specs.Find.{as_object}
use Rattle.std.specs.Prelude.{ℕ, ◌&&◌, List, [], ◌∷◌, Bool, true, false, Option, Some, None, bytes_eq}

abbrev pub are_keys : List (List ℕ) → Members → Bool
are_keys [] no_members = true
are_keys [] (member l d ms) = false
are_keys (k ∷ ks) no_members = false
are_keys (k ∷ ks) (member l d ms) = bytes_eq l k && are_keys ks ms

abbrev pub are_keys_of : List (List ℕ) → Option Members → Bool
are_keys_of ks None = false
are_keys_of ks (Some ms) = are_keys ks ms

-- an object with exactly these keys
abbrev pub has_keys : List (List ℕ) → Data → Bool
has_keys ks d = are_keys_of ks (as_object d)
