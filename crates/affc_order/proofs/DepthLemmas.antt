-- How many loops stand round each assignment, as schedules and nests count them.
use Rattle.std.proofs.Common.{◌≡◌, ℕ, zero, suc, ◌+◌, ◌<◌, IsTrue, List, [], ◌∷◌, ◌++◌, length, map, Some, refl, sym, ap, subst, ◌∙◌, arith}
use Rattle.std.specs.Prelude.{slice_get, ◌&&◌}
use Rattle.std.proofs.lemmas.Option.{none-some, same_Some}
use Rattle.affc_rows.specs.Forms.{HaveColumns}
use Rattle.affc_ast.specs.declared.tree.Program.{Program}
use Rattle.affc_ast.specs.declared.tree.Stmt.{Stmt}
use Rattle.affc_ast.specs.declared.tree.Stmt.TheVariants as s
use Rattle.affc_ast.specs.declared.tree.Stmt.TheBlock.{Row_of-Stmt, more_of-Stmt, end_of-Stmt}
use Rattle.affc_ast.specs.Recursion.{by_stmt, by_each}
use Rattle.affc_ast.proofs.Steps.{row_of, unrolled}
use Rattle.affc_trace.specs.declared.schedule.Schedule.{Schedule}
use Rattle.affc_trace.specs.declared.schedule.Schedule.TheVariants.{Time}
use Rattle.affc_trace.specs.declared.schedule.TimeMap.{TimeMap}
use Rattle.affc_trace.specs.Target.{each_round, loops_step, loops_round, numbers_in, all_slight, maps_within, within_limits, IsMapOf, IsScheduleOf}
use Rattle.affc_trace.proofs.LastStores.{map_append}
use Rattle.affc_trace.proofs.Ordered.{map_of}
use Rattle.affc_domain.specs.Loops.{all_loops, numbered_step, in_text_order, loop_numbers}
use Rattle.affc_domain.proofs.Lists.{both_true, to_mapped, there_is}
use Rattle.affc_domain.proofs.RangeLemmas.{numbers_are}
use Rattle.affc_nest.specs.declared.nest.Entry.{Entry}
use Rattle.affc_nest.specs.declared.nest.Nest.{Nest}
use Rattle.affc_nest.specs.Laws.{IsEntry}
use Rattle.affc_nest.proofs.EntryLemmas.{site_of, entries_stand}
use Rattle.affc_order.specs.Asked.{IsScheduled}
use Rattle.affc_nest.specs.Parts.{statement_or_none, statement_of}
use Rattle.affc_order.specs.Placed.{IsTimed}
use Rattle.affc_order.specs.Systems.{loops_or_none, loops_of}

under_loop : (first depth : ℕ) (xss : List (List ℕ)) → map (λ ls. suc depth + length ls) xss ≡ map (λ ls. depth + length ls) (map (λ ls. first ∷ ls) xss)
under_loop first depth [] = refl
under_loop first depth (xs ∷ xss) = ap (λ n. n ∷ map (λ ls. suc depth + length ls) xss) (moved depth (length xs)) ∙ ap (λ ns. (depth + suc (length xs)) ∷ ns) (under_loop first depth xss)
  where
    moved : (m n : ℕ) → suc m + n ≡ m + suc n
    moved m n = omega arith

alone : (n : ℕ) → n ≡ n + 0
alone n = omega arith

mutual
  depths_are : (x : Stmt) (depth first : ℕ) → by_stmt loops_step x depth ≡ map (λ ls. depth + length ls) ((by_stmt numbered_step x).numbers first)
  depths_are (s.For' iter low rel high shape body) depth first =
      row_depths_are body (suc depth) (suc first) ∙ under_loop first depth (in_text_order (by_each numbered_step body) (suc first))
  depths_are (s.If' cond shape body shape' other) depth first =
      let next = first + all_loops (by_each numbered_step body) in
      ap (λ ns. ns ++ each_round (by_each loops_step other) depth) (row_depths_are body depth first)
      ∙ ap (λ ns. map (λ ls. depth + length ls) (in_text_order (by_each numbered_step body) first) ++ ns) (row_depths_are other depth next)
      ∙ sym (map_append (λ ls. depth + length ls) (in_text_order (by_each numbered_step body) first) (in_text_order (by_each numbered_step other) next))
  depths_are (s.Assign op array subs value) depth first = ap (λ n. n ∷ []) (alone depth)
  depths_are (s.Block' locals shape body) depth first = row_depths_are body depth first

  row_depths_are : {n : _} (body : Row_of-Stmt n) (depth first : ℕ) → each_round (by_each loops_step body) depth ≡ map (λ ls. depth + length ls) (in_text_order (by_each numbered_step body) first)
  row_depths_are end_of-Stmt depth first = refl
  row_depths_are (more_of-Stmt x rest) depth first =
      let next = first + (by_stmt numbered_step x).loops in
      ap (λ ns. ns ++ each_round (by_each loops_step rest) depth) (depths_are x depth first)
      ∙ ap (λ ns. map (λ ls. depth + length ls) ((by_stmt numbered_step x).numbers first) ++ ns) (row_depths_are rest depth next)
      ∙ sym (map_append (λ ls. depth + length ls) ((by_stmt numbered_step x).numbers first) (in_text_order (by_each numbered_step rest) next))

list_depths : (body : List Stmt) → each_round (map (by_stmt loops_step) body) 0 ≡ map (λ ls. 0 + length ls) (in_text_order (map (by_stmt numbered_step) body) 0)
list_depths body =
    ap (λ fs. each_round fs 0) (unrolled loops_step body) ∙ row_depths_are (row_of body) 0 0 ∙ sym (ap (λ ns. map (λ ls. 0 + length ls) (in_text_order ns 0)) (unrolled numbered_step body))

-- the loops round an assignment that a schedule counts are those of its entry
pub counted : (program : Program) (statement : ℕ) (e : Entry) → IsEntry program statement e → slice_get (loops_round program) statement ≡ Some (length e.loops)
counted program statement e h =
    let s = site_of program statement e h in
    ap (λ ns. slice_get ns statement) (list_depths program.body) ∙ to_mapped (λ ls. 0 + length ls) (loop_numbers program) statement s.loops s.loops_at
    ∙ ap (λ n. Some n) (none (length s.loops) ∙ sym (ap (λ (x : Entry). length x.loops) s.is))
  where
    none : (n : ℕ) → 0 + n ≡ n
    none n = omega arith

slight_at : (ms : List TimeMap) (k : ℕ) (m : TimeMap) → IsTrue (maps_within ms) → slice_get ms k ≡ Some m → IsTrue (all_slight m.forms)
slight_at [] k m w e = absurd (none-some m e)
slight_at (x ∷ ms) zero m w e =
    let a = both_true (all_slight x.forms && all_slight x.inverse) (maps_within ms) w in
    subst (λ (z : TimeMap). IsTrue (all_slight z.forms)) (same_Some x m e) (both_true (all_slight x.forms) (all_slight x.inverse) a.0).0
slight_at (x ∷ ms) (suc k) m w e = slight_at ms k m (both_true (all_slight x.forms && all_slight x.inverse) (maps_within ms) w).1 e

pub timed : (nest : Nest) (schedule : Schedule) (q : IsScheduled nest schedule) (components : ℕ) (maps : List TimeMap) → schedule ≡ Time components maps
    → (part : ℕ) → part < length nest.entries → IsTimed nest components maps part
timed nest schedule q components maps is part h =
    let program = q.program in
    let fits : IsScheduleOf program (Time components maps) = subst (IsScheduleOf program) is q.fits in
    let limits : IsTrue (within_limits (Time components maps)) = subst (λ s. IsTrue (within_limits s)) is q.slight in
    let e = there_is nest.entries part h in
    let at : IsEntry program part e.0 = subst (λ (n : Nest). slice_get n.entries part ≡ Some e.0) q.is e.1 in
    let statement : statement_of nest part ≡ part = ap statement_or_none e.1 ∙ ((entries_stand program q.has).1 part e.0 at).statement in
    let r = map_of (numbers_in program.params) components (loops_round program) maps fits part (length e.0.loops) (counted program part e.0 at) in
    let m : TimeMap = r.0 in
    let shape : IsMapOf (numbers_in program.params) (length e.0.loops) components m = r.2 in
    let params : numbers_in program.params ≡ length nest.params = numbers_are program.params ∙ ap (λ (n : Nest). length n.params) (sym q.is) in
    let loops : length e.0.loops ≡ length (loops_of nest part) = ap (λ o. length (loops_or_none o)) (sym e.1) in
    record {
      has = record {
        time_map = m;
        there = ap (slice_get maps) statement ∙ r.1;
        columns = subst (λ k. HaveColumns k m.forms) (shape.columns ∙ ap (λ k. k + length e.0.loops) params ∙ ap (λ k. length nest.params + k) loops) m.shaped;
        slight = slight_at maps part m (both_true _ (maps_within maps) limits).1 r.1;
      };
      long = shape.components;
    }
