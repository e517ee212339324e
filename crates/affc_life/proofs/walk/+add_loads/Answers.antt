use Rattle.std.proofs.Common.{◌≡◌, ◌+◌, ◌-◌, ◌≤◌, ℕ, zero, suc, false, Fits, w64, rules, arith, length, map, flat_map, take, drop, ap, sym, ◌∙◌}
use Rattle.std.specs.Prelude.{nat_eq}
use Rattle.std.proofs.lemmas.List.{length-drop}
use Rattle.std.proofs.lemmas.Result.{on_ok_weaker}
use Rattle.affc_domain.proofs.Lists.{first_and_rest}
use Rattle.affc_order.proofs.CodeLemmas.{is_nest}
use Rattle.affc_quast.specs.Seen.{seen}
use Rattle.affc_life.specs.Drafts.{drafted, walk_of, clashes_of_load}
use Rattle.affc_life.proofs.SubscriptLemmas.{few_accesses}
use Rattle.affc_life.proofs.WalkLemmas.{loads_made}
use Rattle.affc_life.proofs.walk.+add_loads.Goals as goal

few_fit : (n : ℕ) → n ≤ 16 → Fits w64 n
few_fit n h = first_of (omega (arith, h), search (rules, h), grind (arith, h))

next_few : (n w a : ℕ) → a ≡ w - n → 1 ≤ a → w ≤ 16 → n + 1 ≤ 16
next_few n w a e h g = omega (arith, e, h, g)

pub overflow_add-number : goal.overflow_add-number
overflow_add-number t c =
    let nest = c.args.asked.now.nest.now in
    few_fit (c.args.number + 1)
    (next_few c.args.number (length c.args.reader.now.accesses) (length c.args.accesses.now) (ap length c.requires.rest ∙ length-drop c.args.number c.args.reader.now.accesses) c.in-len1-up.len_at_least
    (few_accesses nest (is_nest nest c.args.asked.now.after.now c.requires.scheduled.after) c.args.reader.now c.requires.reads.there))

some_more : (n : ℕ) → nat_eq n 0 ≡ false → 1 ≤ n
some_more zero e = absurd (cc)
some_more (suc n) e = omega arith

pub returns-in_ok-add_load-in-len1-up : goal.returns-in_ok-add_load-in-len1-up
returns-in_ok-add_load-in-len1-up t c =
    let xs = c.args.accesses.now in
    let rest = take (length xs - 1) (drop 1 xs) in
    on_ok_weaker c.add_loads.result
    (loads_made (clashes_of_load c.args.asked.now.nest.now (walk_of c.args.asked.now) c.args.reader.now (map seen c.args.trees.now)) xs rest c.load-item.result c.args.number
    (flat_map drafted c.args.out.now.items) (flat_map drafted c.add_load.new.out.items) (flat_map drafted c.add_loads.new.out.items) (first_and_rest xs c.load-item.result c.in-len1-up.len_at_least c.load-item.is)
    (some_more (length rest) (sym c.is_empty.ensures ∙ c.if-is_empty.false)) c.in_ok-add_load-in-len1-up.ensures)
    c.add_loads.ensures
