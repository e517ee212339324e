use Rattle.std.proofs.Common.{Err, length, map, sym, subst}
use Rattle.affc_syntax.specs.draft.Symbols.{seen}
use Rattle.affc_syntax.specs.declared.ahead.Stop.TheVariants as s
use Rattle.affc_syntax.specs.Readers.{Fails}
use Rattle.affc_schedtext.specs.ReadAnswers.{IsRead}
use Rattle.affc_schedtext.specs.Drafting.{text}
use Rattle.affc_schedtext.proofs.DraftReads.{answered, stopped, too_deep}
use Rattle.affc_schedtext.proofs.lines.read_draft.Goals as goal

pub returns-in-Ok : goal.returns-in-Ok
returns-in-Ok c = answered c.args.outline.now c.args.room c.args.symbols.now c.in-Ok.draft c.in-Ok.field-0-1 c.in-Ok.ensures

pub returns-in-Err-At : goal.returns-in-Err-At
returns-in-Err-At c =
    subst (λ n. IsRead c.args.outline.now c.args.room (map seen c.args.symbols.now) (Err (s.At n))) (sym c.number_of_first.ensures)
    (stopped c.args.outline.now c.args.room c.args.symbols.now c.in-Err-At.next (subst (λ f. Fails (map seen c.args.symbols.now) f (text c.args.outline.now (length c.args.symbols.now) c.args.room (map seen c.args.symbols.now))) c.in-Err-At.field-0-is c.in-Err-At.ensures))

pub returns-in-Err-Deep : goal.returns-in-Err-Deep
returns-in-Err-Deep c = too_deep c.args.outline.now c.args.room c.args.symbols.now (subst (λ f. Fails (map seen c.args.symbols.now) f (text c.args.outline.now (length c.args.symbols.now) c.args.room (map seen c.args.symbols.now))) c.in-Err-Deep.field-0-is c.in-Err-Deep.ensures)
