-- A bare program that a text reads as has room for loops.
use Rattle.std.proofs.Common.{◌≡◌, Bool, true, false, not, ◌&&◌, List, [], ◌∷◌, refl, arith}
use Rattle.std.proofs.lemmas.Bool.{and_parts}
use Rattle.std.proofs.lemmas.List.Elements.{All-cons}
use Rattle.affc_lex.specs.Pieces.{is_word}
use Rattle.affc_ast.specs.Names.{is_reserved}
use Rattle.affc_ast.specs.Trace.{Assignment}
use Rattle.affc_domain.specs.Rounds.{Round, Loop, Test}
use Rattle.affc_domain.proofs.PlainLemmas.{has_assignment}
use Rattle.affc_grammar.specs.Names.{is_time_name}
use Rattle.affc_plain.proofs.NoLocals.{plain_has_no_locals}
use Rattle.affc_plain.proofs.Programs.{reads_plain}
use Rattle.affc_loops.specs.Loops.{loop_names}
use Rattle.affc_cprint.specs.Forms.{program_passes}
use Rattle.affc_wellnamed.specs.Known.{Known, and_iterator, is_new, is_refused, for_known, cond_known, known_behind, program_known}
use Rattle.affc_wellnamed.specs.Plain.{is_plain}
use Rattle.affc_wellnamed.specs.Work.{program_fits}
use Rattle.affc_wellnamed.proofs.Decides.{well_named_is_kept}
use Rattle.affc_loopprint.proofs.reprint.Reprinted.{reads_well_named}
use Rattle.affc_loopprint.specs.Laws.{ReadsSpare}
use Rattle.affc_loopprint.specs.Spare.{HaveFreeNames}
use Rattle.affc_loopprint.proofs.KnownAround.{around_known, all_known, known_body}
use Rattle.affc_loopprint.proofs.ShapeReads.{reads_short}

-- without the prelude no name that is kept may be an iterator's
not_kept : (r p t : Bool) → p ≡ false → not (r && not (true && p && t)) ≡ true → r ≡ false
not_kept false p t e h = refl
not_kept true true t e h = absurd (cc)
not_kept true false t e h = absurd (cc)

names_free : (rs : List Round) (a : Assignment) (known : Known) → known.prelude ≡ false → around_known known rs a ≡ true → HaveFreeNames rs
names_free [] a known off' h = λ i x l. absurd (omega arith)
names_free (Loop iter low rel high ∷ rs) a known off' h =
    let p = and_parts (for_known known iter low rel high) _ h in
    let q = and_parts (is_new known true iter) _ p.0 in
    let r = and_parts (is_word iter && not (is_refused known.prelude true iter)) (not (known.is_taken iter)) q.0 in
    let s = and_parts (is_word iter) (not (is_refused known.prelude true iter)) r.0 in
    All-cons (λ w. is_reserved w ≡ false) iter (loop_names rs) (not_kept (is_reserved iter) known.prelude (is_time_name iter) off' s.1) (names_free rs a (and_iterator known iter) off' p.1)
names_free (Test cond ∷ rs) a known off' h = names_free rs a known off' (and_parts (cond_known known cond) _ h).1

pub reads_spare : ReadsSpare
reads_spare text program r is_bare =
    let off' = is_bare.prelude in
    let k = well_named_is_kept program (reads_well_named text program r off') in
    let a = and_parts (program_known program) _ k in
    let b = and_parts (program_passes is_plain program) _ a.1 in
    let c = and_parts (program_fits program) _ b.1 in
    let bare = plain_has_no_locals program (reads_plain text program r is_bare) in
    record {
      known = a.0;
      plain = b.0;
      fits = c.0;
      bare = bare;
      iterators = λ n rs e.
          let s = has_assignment program n rs e in
          names_free rs s.0 (known_behind program.prelude program.name program.params program.temps) off' (all_known program (known_body program a.0) bare n rs s.0 e s.1);
      short = reads_short text program r is_bare;
    }
