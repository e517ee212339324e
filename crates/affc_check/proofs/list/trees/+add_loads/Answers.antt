use Rattle.std.proofs.Common.{◌≡◌, ◌+◌, ◌-◌, ◌≤◌, ◌∷◌, [], ℕ, Fits, w64, rules, arith, ◌++◌, length, map, flat_map, take, drop, ap, sym, ◌∙◌}
use Rattle.std.specs.Prelude.{slice_get}
use Rattle.std.proofs.lemmas.List.{length-drop}
use Rattle.std.proofs.lemmas.Result.{on_ok_weaker}
use Rattle.affc_domain.proofs.Lists.{stands_in, first_and_rest}
use Rattle.affc_quast.specs.Seen.{seen}
use Rattle.affc_life.specs.Clashes.{Walk, numbered_loads}
use Rattle.affc_life.specs.Drafts.{clashes_of_load}
use Rattle.affc_life.proofs.SubscriptLemmas.{few_accesses}
use Rattle.affc_life.proofs.WalkLemmas.{load_there, load_counts}
use Rattle.affc_check.specs.list.Walks.{load_items, own_items}
use Rattle.affc_check.proofs.list.ListingLemmas.{none_below}
use Rattle.affc_check.proofs.list.LoadLemmas.{nothing_put, put_same, one_put, put_twice, loads_next, loads_last}
use Rattle.affc_check.proofs.list.TreeLemmas.{not_empty, is_empty, own_next, own_last}
use Rattle.affc_check.proofs.list.trees.+add_loads.Goals as goal

few_fit : (n : ℕ) → n ≤ 16 → Fits w64 n
few_fit n h = first_of (omega (arith, h), search (rules, h), grind (arith, h))

next_few : (n w a : ℕ) → a ≡ w - n → 1 ≤ a → w ≤ 16 → n + 1 ≤ 16
next_few n w a e h g = omega (arith, e, h, g)

pub overflow_add-number : goal.overflow_add-number
overflow_add-number t c =
    few_fit (c.args.number + 1)
    (next_few c.args.number (length c.args.reader.now.accesses) (length c.args.accesses.now) (ap length c.requires.rest ∙ length-drop c.args.number c.args.reader.now.accesses) c.in-len1-up.len_at_least
    (few_accesses c.args.nest.now c.requires.nested c.args.reader.now c.requires.reads.there))

pub part_of-part-requires-clause-load : goal.part_of-part-requires-clause-load
part_of-part-requires-clause-load t c =
    let nest = c.args.nest.now in
    let own = map seen c.args.trees.now in
    let reader = c.args.reader.now in
    let n = c.args.number in
    let xs = c.args.accesses.now in
    let rest = take (length xs - 1) (drop 1 xs) in
    let x = c.load-item.result in
    let is = first_and_rest xs x c.in-len1-up.len_at_least c.load-item.is in
    stands_in reader.accesses n x (load_there reader.accesses xs rest x n c.requires.rest is)

pub part_of-part-requires-clause-counts : goal.part_of-part-requires-clause-counts
part_of-part-requires-clause-counts t c =
    let nest = c.args.nest.now in
    let own = map seen c.args.trees.now in
    let reader = c.args.reader.now in
    let n = c.args.number in
    let xs = c.args.accesses.now in
    let rest = take (length xs - 1) (drop 1 xs) in
    let x = c.load-item.result in
    let is = first_and_rest xs x c.in-len1-up.len_at_least c.load-item.is in
    let more = not_empty rest c.is_empty.result c.is_empty.ensures c.if-is_empty.false in
    load_counts reader.accesses xs rest x n c.requires.rest is more

pub returns-in-empty : goal.returns-in-empty
returns-in-empty t c =
    let own = map seen c.args.trees.now in
    let C = λ (walk : Walk). clashes_of_load c.args.nest.now walk c.args.reader.now own in
    let none = none_below c.args.accesses.now c.in-empty.len_below in
    nothing_put c.args.nest.now (own_items c.args.nest.now own c.args.reader.now c.args.number c.args.accesses.now) (λ walk. flat_map (C walk) (numbered_loads c.args.number c.args.accesses.now)) c.args.out.now
    (ap (own_items c.args.nest.now own c.args.reader.now c.args.number) none) (λ walk. ap (λ xs. flat_map (C walk) (numbered_loads c.args.number xs)) none)

pub returns-then-is_empty : goal.returns-then-is_empty
returns-then-is_empty t c =
    let own = map seen c.args.trees.now in
    let xs = c.args.accesses.now in
    let rest = take (length xs - 1) (drop 1 xs) in
    let x = c.load-item.result in
    let is = first_and_rest xs x c.in-len1-up.len_at_least c.load-item.is in
    let C = λ (walk : Walk). clashes_of_load c.args.nest.now walk c.args.reader.now own in
    let none = is_empty rest c.is_empty.result c.is_empty.ensures c.if-is_empty.true in
    nothing_put c.args.nest.now (own_items c.args.nest.now own c.args.reader.now c.args.number xs) (λ walk. flat_map (C walk) (numbered_loads c.args.number xs)) c.args.out.now
    (own_last c.args.nest.now own c.args.reader.now c.args.number xs rest x is none) (λ walk. loads_last (C walk) xs rest x c.args.number is none)

pub returns-in_ok-push-in-len1-up : goal.returns-in_ok-push-in-len1-up
returns-in_ok-push-in-len1-up t c =
    let nest = c.args.nest.now in
    let own = map seen c.args.trees.now in
    let reader = c.args.reader.now in
    let n = c.args.number in
    let xs = c.args.accesses.now in
    let rest = take (length xs - 1) (drop 1 xs) in
    let x = c.load-item.result in
    let is = first_and_rest xs x c.in-len1-up.len_at_least c.load-item.is in
    let more = not_empty rest c.is_empty.result c.is_empty.ensures c.if-is_empty.false in
    let first = load_items nest reader x (slice_get own n) in
    let others = own_items nest own reader (n + 1) rest in
    let part = c.part_of-part in
    let C = λ (walk : Walk). clashes_of_load nest walk reader own in
    on_ok_weaker c.add_loads.result
    (λ h. put_same nest (first ∷ others) (own_items nest own reader n xs) (λ walk. C walk (n, x) ++ flat_map (C walk) (numbered_loads (n + 1) rest)) (λ walk. flat_map (C walk) (numbered_loads n xs)) c.args.out.now c.add_loads.new.out
    (sym (own_next nest own reader n xs rest x is more)) (λ walk. loads_next (C walk) xs rest x n is more)
    (put_twice nest (first ∷ []) others (λ walk. C walk (n, x)) (λ walk. flat_map (C walk) (numbered_loads (n + 1) rest)) c.args.out.now c.push.new.self c.add_loads.new.out
    (one_put nest first (λ walk. C walk (n, x)) part.result c.args.out.now c.push.new.self c.in_ok-push-in-len1-up.ensures.ok part.ensures.said part.ensures.clashing part.ensures.part) h))
    c.add_loads.ensures
