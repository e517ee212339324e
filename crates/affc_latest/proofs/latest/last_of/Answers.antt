use Rattle.std.proofs.Common.{◌≡◌, ℕ, ◌-◌, ◌<◌, ◌==◌, Bool, false, Some, length, refl, arith, rules}
use Rattle.std.proofs.lemmas.Bool.Decides.{nat_tests}
use Rattle.affc_flow.specs.Questions.{store_of_entry}
use Rattle.affc_latest.proofs.AmongLemmas.{no_writer, dead_writer, bare_writer, other_writer, last_access}
use Rattle.affc_latest.proofs.latest.last_of.Goals as goal

last_there : (t : Bool) (n : ℕ) → t ≡ (n == 0) → t ≡ false → n - 1 < n
last_there t n e f = first_of (grind (arith, nat_tests), grind arith, search (rules))

pub returns-then-not-writer-clause-latest : goal.returns-then-not-writer-clause-latest
returns-then-not-writer-clause-latest c =
    let r = c.args.reading.now in
    no_writer r.nest.now r.reader.now r.load.now r.p.now r.iterators.now c.args.writer.now c.requires.writer (dead_writer r.nest.now r.load.now.array.0 c.args.writer.now c.if-not-writer.true)

pub returns-then-is_empty-clause-latest : goal.returns-then-is_empty-clause-latest
returns-then-is_empty-clause-latest c =
    let r = c.args.reading.now in
    no_writer r.nest.now r.reader.now r.load.now r.p.now r.iterators.now c.args.writer.now c.requires.writer
    (bare_writer r.nest.now r.load.now.array.0 c.args.writer.now c.as_slice-accesses.result.now c.as_slice-accesses.ensures (first_of (omega arith, search rules, grind arith)))

pub returns-then-other-clause-latest : goal.returns-then-other-clause-latest
returns-then-other-clause-latest c =
    let r = c.args.reading.now in
    let v = c.args.writer.now in
    let y = c.index-accesses-accesses.result in
    let last : store_of_entry v ≡ Some y =
    last_access v c.as_slice-accesses.result.now (length c.as_slice-accesses.result.now - 1) y c.as_slice-accesses.ensures refl
    (last_there c.is_empty.result (length c.as_slice-accesses.result.now) c.is_empty.ensures c.if-is_empty.false) c.index-accesses-accesses.is in
    no_writer r.nest.now r.reader.now r.load.now r.p.now r.iterators.now v c.requires.writer (other_writer r.nest.now r.load.now.array.0 v y last c.if-other.true)

pub last_store-requires-clause-writes : goal.last_store-requires-clause-writes
last_store-requires-clause-writes c =
    let v = c.args.writer.now in
    let y = c.index-accesses-accesses.result in
    record {
      among = c.requires.writer;
      alive = c.if-not-writer.false;
      last =
          last_access v c.as_slice-accesses.result.now (length c.as_slice-accesses.result.now - 1) y c.as_slice-accesses.ensures refl
          (last_there c.is_empty.result (length c.as_slice-accesses.result.now) c.is_empty.ensures c.if-is_empty.false) c.index-accesses-accesses.is;
      of_array = c.if-other.false;
    }
