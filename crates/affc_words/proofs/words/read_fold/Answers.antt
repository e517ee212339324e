-- What is found in the matches is what the definition says.
use Rattle.std.proofs.Common.{sym, ◌∙◌, Some, None}
use Rattle.clap.specs.Matches.{found_of}
use Rattle.clap.specs.Simple.{app_of}
use Rattle.affc_words.specs.Command.{texts_of}
use Rattle.affc_words.specs.Parsed.{Parses, fold_app}
use Rattle.affc_words.proofs.Forms.Fold.{fold_none, fold_some, fold_missing, fold_answer}
use Rattle.affc_words.proofs.words.read_fold.Goals as goal

pub returns-in_default : goal.returns-in_default
returns-in_default c =
    let parses : Parses (app_of c.in_ok-form.form) (texts_of c.args.words.now) c.in_ok-matches.field-0 = c.in_ok-matches.ensures in
    let none : Parses fold_app (texts_of c.args.words.now) None = rw (c.in_ok-form.ensures, c.in_default.is) at parses in
    sym (fold_none (texts_of c.args.words.now) c.requires none)

pub returns-in_default-get_str : goal.returns-in_default-get_str
returns-in_default-get_str c =
    let parses : Parses (app_of c.in_ok-form.form) (texts_of c.args.words.now) c.in_ok-matches.field-0 = c.in_ok-matches.ensures in
    let some : Parses fold_app (texts_of c.args.words.now) (Some c.in-Some.matches) = rw (c.in_ok-form.ensures, c.in-Some.is) at parses in
    fold_missing (texts_of c.args.words.now) (found_of c.in-Some.matches) (fold_some (texts_of c.args.words.now) c.in-Some.matches c.requires some)
    c.in_default-get_str.ensures

pub returns : goal.returns
returns c =
    let parses : Parses (app_of c.in_ok-form.form) (texts_of c.args.words.now) c.in_ok-matches.field-0 = c.in_ok-matches.ensures in
    let some : Parses fold_app (texts_of c.args.words.now) (Some c.in-Some.matches) = rw (c.in_ok-form.ensures, c.in-Some.is) at parses in
    c.fold_by.ensures ∙ fold_answer (texts_of c.args.words.now) (found_of c.in-Some.matches) c.in-Some-get_str.source.now _ _ _
    (fold_some (texts_of c.args.words.now) c.in-Some.matches c.requires some) c.in-Some-get_str.ensures c.get_str-schedule.ensures
    (rw (c.get_str-budget.ensures, c.get_str-cost.ensures) at c.settings_of.ensures) c.get_str-certificate.ensures
