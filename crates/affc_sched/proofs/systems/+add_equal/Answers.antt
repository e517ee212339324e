use Rattle.std.proofs.Common.{◌≡◌, ◌+◌, ◌-◌, length, take, drop, sym, ap, subst, ◌∙◌, arith}
use Rattle.std.proofs.lemmas.List.Elements.{All-take, All-drop}
use Rattle.std.proofs.lemmas.List.{length-take-le, length-drop}
use Rattle.affc_system.specs.Systems.{Rows}
use Rattle.affc_trace.proofs.Runs.{length_append}
use Rattle.affc_nest.specs.Sides.{IsSide}
use Rattle.affc_sched.proofs.SystemLemmas.{side_first, side_second}
use Rattle.affc_sched.proofs.systems.+add_equal.Goals as goal

pub add_compare-requires-clause-first : goal.add_compare-requires-clause-first
add_compare-requires-clause-first t c =
    side_first c.args.params c.args.outer c.args.inner c.args.system.now.columns c.f-item.result c.in_ok-f-in-len1-up-gs.f
    (subst (IsSide (c.args.params + c.args.outer)) (sym c.f-item.is) (c.requires.firsts 0 c.f-item.result c.in-len1-up.len_at_least)) c.in_ok-f-in-len1-up-gs.ensures c.requires.columns

pub add_compare-requires-clause-second : goal.add_compare-requires-clause-second
add_compare-requires-clause-second t c =
    side_second c.args.params c.args.outer c.args.inner c.args.system.now.columns c.g-item.result c.in_ok-g-in-len1-up-gs.g
    (subst (IsSide (c.args.params + c.args.inner)) (sym c.g-item.is) (c.requires.seconds 0 c.g-item.result c.in-len1-up-gs.len_at_least)) c.in_ok-g-in-len1-up-gs.ensures c.requires.columns

pub add_equal-requires : goal.add_equal-requires
add_equal-requires t c =
    let fs = c.args.fs.now in
    let gs = c.args.gs.now in
    let some = c.in-len1-up.len_at_least in
    let room = c.requires.room in
    let made = c.in_ok-add_compare-in-len1-up-gs.ensures in
    let more : length c.add_compare.new.system.rows ≡ length c.args.system.now.rows + 2 = ap (λ (s : Rows). length s.rows) made ∙ length_append c.args.system.now.rows _ in
    let rest : length (take (length fs - 1) (drop 1 fs)) ≡ length fs - 1 = length-take-le (length fs - 1) (drop 1 fs) (omega (arith, length-drop 1 fs)) in (
      omega (arith, some, rest),
      (
        All-take (IsSide (c.args.params + c.args.outer)) (length fs - 1) (drop 1 fs) (All-drop (IsSide (c.args.params + c.args.outer)) 1 fs c.requires.firsts),
        (
          All-take (IsSide (c.args.params + c.args.inner)) (length gs - 1) (drop 1 gs) (All-drop (IsSide (c.args.params + c.args.inner)) 1 gs c.requires.seconds),
          (ap (λ (s : Rows). s.columns) made ∙ c.requires.columns, omega (arith, some, rest, more, room)),
        ),
      ),
    )
