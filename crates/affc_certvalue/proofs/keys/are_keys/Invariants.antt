use Rattle.std.proofs.Common.{◌≡◌, map}
use Rattle.serde_json.specs.View.{members_view}
use Rattle.affc_certvalue.specs.Keys.{are_keys}
use Rattle.affc_certvalue.proofs.keys.are_keys.Given as goal

abbrev pub invariant-loop-key : goal.invariant-loop-key
invariant-loop-key l = are_keys (map (λ k. k.now) l.rest) (members_view l.key-iterator) ≡ are_keys (map (λ k. k.now) l.keys) (members_view l.initial.key-iterator)
