-- A bare program that a text reads as is short.
use Rattle.std.proofs.Common.{◌≡◌, ℕ, ◌-◌, ◌≤◌, IsTrue, List, [], ◌∷◌, length, Some, arith}
use Rattle.std.specs.Prelude.{slice_get}
use Rattle.std.proofs.lemmas.Bool.{and_parts}
use Rattle.affc_ast.specs.declared.tree.Program.{Program}
use Rattle.affc_ast.specs.Joined.{has_joined_tests}
use Rattle.affc_ast.specs.Trace.{Assignment, assignments}
use Rattle.affc_grammar.specs.Reads.{Reads}
use Rattle.affc_wellnamed.specs.Known.{program_known}
use Rattle.affc_domain.specs.Ranges.{number_ranges}
use Rattle.affc_domain.specs.Rounds.{Round, rounds}
use Rattle.affc_domain.proofs.PlainLemmas.{rounds_are_plain, few_loops, few_comparisons}
use Rattle.affc_plain.specs.Laws.{IsBare}
use Rattle.affc_plain.proofs.NoLocals.{plain_has_no_locals}
use Rattle.affc_plain.proofs.Programs.{reads_plain}
use Rattle.affc_wellnamed.specs.declared.shape.Shape.{Shape}
use Rattle.affc_wellnamed.specs.Shape.{empty, all_behind, lines_shape, function_shape}
use Rattle.affc_wellnamed.proofs.ShapeStatements.{none}
use Rattle.affc_wellnamed.proofs.Decides.{well_named_is_kept}
use Rattle.affc_cprint.proofs.ReadBackValues.{Each}
use Rattle.affc_loops.specs.Loops.{guarded, moved_assign}
use Rattle.affc_loopprint.proofs.reprint.Statements.{numbers_of, AtMost, behind_most}
use Rattle.affc_loopprint.proofs.reprint.Whole.{printed_bounded}
use Rattle.affc_loopprint.proofs.reprint.Reprinted.{reads_printed, reads_well_named}
use Rattle.affc_loopprint.specs.Short.{KeepsTo, with_prelude, head_shape, tested_shape, IsShort}
use Rattle.affc_loopprint.proofs.KnownAround.{few_around, all_known, known_body}
use Rattle.affc_loopprint.proofs.ShapeCalls.{prelude_near}
use Rattle.affc_loopprint.proofs.ShapeGuards.{guarded_fits, guarded_items}
use Rattle.affc_loopprint.proofs.ShapeRooms.{Room, Small, room_more, each_so, behind_parts, behind_items, closed_parts, printed}

-- ---- The parts of a function

record FunctionParts (other : Program) : Type 0 where
  head : AtMost (numbers_of (head_shape other)) (record { tokens = 131072; run = 4097; depth = 229; items = 256 })
  bodies : Each (λ s. Room 131072 4097 229 (numbers_of s)) (printed other.body)

function_parts : (other : Program) → AtMost (numbers_of (function_shape (with_prelude other))) (record { tokens = 131073; run = 4097; depth = 230; items = 256 }) → FunctionParts other
function_parts other f =
    let before = head_shape other in
    let small : Small 131073 4097 230 = record { tokens = omega arith; run = omega arith; depth = omega arith } in
    let small' : Small 131072 4097 229 = record { tokens = omega arith; run = omega arith; depth = omega arith } in
    let c = closed_parts 131073 4097 230 (all_behind before (printed other.body)) small (record { tokens = f.tokens; run = f.run; depth = f.depth }) in
    let q = behind_parts 131072 4097 229 before (printed other.body) small' c.room in
    let h = q.0 in let t = h.tokens in
    let i = f.items in
    record {
      head = record { tokens = t; run = h.run; depth = h.depth; items = behind_items before (printed other.body) 256 (omega arith) (omega (arith, i)) };
      bodies = each_less (printed other.body) q.1;
    }
  where
    each_less : (ss : List Shape) → Each (λ s. Room (131072 - (head_shape other).tokens) 4097 229 (numbers_of s)) ss → Each (λ s. Room 131072 4097 229 (numbers_of s)) ss
    each_less ss h = each_so _ _ ss (λ u k. room_more (131072 - (head_shape other).tokens) 4097 229 131072 4097 229 (numbers_of u) (omega arith) (omega arith) (omega arith) k) h

-- each assignment with what stands round it, under at most 38 loops and conditions
statements_kept : (other : Program) → IsTrue (has_joined_tests other) → Each (λ s. Room 131072 4097 229 (numbers_of s)) (printed other.body) → (k : ℕ) (rs : List Round) (a : Assignment) → slice_get (rounds other) k ≡ Some rs → slice_get (assignments other) k ≡ Some a
    → length rs ≤ 38 → (first more from : ℕ) → KeepsTo (record { tokens = 131072; run = 8195; depth = 229; items = 38 }) (tested_shape first more from rs a)
statements_kept other joined bodies k rs a e f few first more from =
    let m : Small 131072 4097 229 = record { tokens = omega arith; run = omega arith; depth = omega arith } in
    let core = guarded first more from rs (moved_assign first more a ∷ []) in
    let r = guarded_fits 131072 4097 229 other m joined bodies k rs a e f first more from in
    let i = guarded_items first more from rs (moved_assign first more a ∷ []) in
    let b = behind_most empty none (printed core) (record { tokens = omega arith; run = omega arith; depth = omega arith; items = omega arith }) in
    let x = r.tokens in let y = r.run in let z = r.depth in
    let x' = b.tokens in let y' = b.run in let z' = b.depth in let w' = b.items in
    record { tokens = omega (arith, x, x'); run = omega (arith, y, y'); depth = omega (arith, z, z'); items = omega (arith, i, w', few) }

-- ---- What a text without the prelude gives

pub record ReadParts (program : Program) : Type 0 where
  pub lines : AtMost (numbers_of (lines_shape program)) (record { tokens = 65424; run = 65379; depth = 193; items = 0 })
  pub function : AtMost (numbers_of (function_shape (with_prelude program))) (record { tokens = 131073; run = 4097; depth = 230; items = 256 })
  pub head : AtMost (numbers_of (head_shape program)) (record { tokens = 131072; run = 4097; depth = 229; items = 256 })
  pub statements : (k : ℕ) (rs : List Round) (a : Assignment) → slice_get (rounds program) k ≡ Some rs → slice_get (assignments program) k ≡ Some a
      → (first more from : ℕ) → KeepsTo (record { tokens = 131072; run = 8195; depth = 229; items = 38 }) (tested_shape first more from rs a)

pub reads_parts : (text : List ℕ) (program : Program) → Reads text program → IsBare program → ReadParts program
reads_parts text program r is_bare =
    let off = is_bare.prelude in
    let known = (and_parts (program_known program) _ (well_named_is_kept program (reads_well_named text program r off))).0 in
    let p = reads_printed text program r off in
    let f = p.function in
    let n = prelude_near program off known in
    let t = n.tokens in let u = n.run in let v = n.depth in let w = n.items in
    let t' = f.tokens in let u' = f.run in let v' = f.depth in let w' = f.items in
    let plain = reads_plain text program r is_bare in
    let whole : AtMost (numbers_of (function_shape (with_prelude program))) (record { tokens = 131073; run = 4097; depth = 230; items = 256 }) =
    record { tokens = omega (arith, t, t'); run = omega (arith, u, u'); depth = omega (arith, v, v'); items = omega (arith, w, w') } in
    let parts = function_parts program whole in
    record {
      lines = p.lines;
      function = whole;
      head = parts.head;
      statements = λ k rs a e i.
          let there = rounds_are_plain program plain k rs e in
          let loops = few_loops (length (number_ranges program.params)) 0 0 rs (omega arith) there in
          let comparisons = few_comparisons (length (number_ranges program.params)) 0 0 rs there in
          let around = few_around _ rs a (all_known program (known_body program known) (plain_has_no_locals program plain) k rs a e i) in
          statements_kept program is_bare.tests parts.bodies k rs a e i (omega (arith, loops, comparisons, around));
    }

pub reads_short : (text : List ℕ) (program : Program) → Reads text program → IsBare program → IsShort program
reads_short text program r is_bare =
    let parts = reads_parts text program r is_bare in
    let l = parts.lines in
    let a = l.tokens in let b = l.run in let c = l.depth in let d = l.items in
    let head = parts.head in
    let h = head.tokens in let g = head.run in let k = head.depth in let j = head.items in
    record {
      bounded = printed_bounded program (reads_printed text program r is_bare.prelude);
      lines = record { tokens = omega (arith, a); run = omega (arith, b); depth = omega (arith, c); items = omega (arith, d) };
      head = record { tokens = omega (arith, h); run = omega (arith, g); depth = omega (arith, k); items = j };
      statements = λ statement rs x e i first more from.
          let s = parts.statements statement rs x e i first more from in
          let t = s.tokens in let u = s.run in let v = s.depth in
          record { tokens = omega (arith, t); run = omega (arith, u); depth = omega (arith, v); items = s.items };
    }
