use Rattle.std.proofs.Common.{◌≡◌, ◌+◌, ◌<◌, ℕ, List, Option, Some, None, IfSome, get_or, sym, ap, subst, ◌∙◌}
use Rattle.std.specs.Prelude.{slice_get}
use Rattle.std.proofs.lemmas.List.Elements.{All-get_or}
use Rattle.std.proofs.lemmas.Option.{slice_get-get_or}
use Rattle.affc_floor.specs.declared.life.Stored.{Stored}
use Rattle.affc_floor.specs.Lives.{AreSoFar}
use Rattle.affc_floor.proofs.Placing.{none_stored, placed, all_placed, none_of}
use Rattle.affc_floor.proofs.found.lives.Goals as goal
use Rattle.affc_floor.proofs.found.lives.Goals.{in-Some+in_ok-add_life, in_default}

pub loop-at-preserved : goal.loop-at-preserved
loop-at-preserved c =
    let stores : List (Option Stored) = c.args.stores.now in
    let at : ℕ = c.loop-at.at in
    let there : slice_get stores at ≡ Some (get_or stores at None) = slice_get-get_or stores at None c.loop-at-test.true in
    elim c.match-stores-at.branch [
      | in-Some+in_ok-add_life w ↦
          let low : w.in-Some.store.slot < c.args.slots = subst (λ (o : Option Stored). IfSome o (λ s. s.slot < c.args.slots)) w.in-Some.is (All-get_or (λ (o : Option Stored). IfSome o (λ s. s.slot < c.args.slots)) stores at None c.loop-at-test.true c.requires) in
          subst (λ v. AreSoFar c.args.slots (at + 1) stores v.items c.match-stores-at.found.items) (sym w.covered-is)
          (subst (λ v. AreSoFar c.args.slots (at + 1) stores w.add_life.new.covered.items v.items) (sym w.found-is)
          (placed c.args.slots at stores c.loop-at.covered.items c.loop-at.found.items c.loop-at.invariant w.in-Some.store (there ∙ ap Some w.in-Some.is) low w.add_life.new.covered.items w.add_life.new.found.items w.in_ok-add_life.ensures))
      | in_default w ↦
          subst (λ v. AreSoFar c.args.slots (at + 1) stores v.items c.match-stores-at.found.items) (sym w.covered-is)
          (subst (λ v. AreSoFar c.args.slots (at + 1) stores c.loop-at.covered.items v.items) (sym w.found-is)
          (none_stored c.args.slots at stores c.loop-at.covered.items c.loop-at.found.items c.loop-at.invariant (there ∙ ap Some (none_of (get_or stores at None) w.in_default.not-Some))))
    ]

pub returns : goal.returns
returns c = all_placed c.args.slots c.loop-at.at c.args.stores.now c.loop-at.covered.items c.loop-at.found.items c.loop-at.invariant c.loop-at-test.false
