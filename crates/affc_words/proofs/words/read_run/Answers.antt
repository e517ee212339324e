-- What is found in the matches is what the definition says.
use Rattle.std.proofs.Common.{sym, Some, None}
use Rattle.clap.specs.Matches.{found_of}
use Rattle.clap.specs.Simple.{app_of}
use Rattle.affc_words.specs.Command.{texts_of}
use Rattle.affc_words.specs.Parsed.{Parses, run_app}
use Rattle.affc_words.proofs.Forms.Run.{run_none, run_some, run_no_source, run_no_feed, run_no_steps, run_answer}
use Rattle.affc_words.proofs.words.read_run.Goals as goal

pub returns-in_default : goal.returns-in_default
returns-in_default c =
    let parses : Parses (app_of c.in_ok-form.form) (texts_of c.args.words.now) c.in_ok-matches.field-0 = c.in_ok-matches.ensures in
    let none : Parses run_app (texts_of c.args.words.now) None = rw (c.in_ok-form.ensures, c.in_default.is) at parses in
    sym (run_none (texts_of c.args.words.now) c.requires none)

pub returns-in_default-get_str : goal.returns-in_default-get_str
returns-in_default-get_str c =
    let parses : Parses (app_of c.in_ok-form.form) (texts_of c.args.words.now) c.in_ok-matches.field-0 = c.in_ok-matches.ensures in
    let some : Parses run_app (texts_of c.args.words.now) (Some c.in-Some.matches) = rw (c.in_ok-form.ensures, c.in-Some.is) at parses in
    run_no_source (texts_of c.args.words.now) (found_of c.in-Some.matches) (run_some (texts_of c.args.words.now) c.in-Some.matches c.requires some)
    c.in_default-get_str.ensures

pub returns-in_default-get_str-2 : goal.returns-in_default-get_str-2
returns-in_default-get_str-2 c =
    let parses : Parses (app_of c.in_ok-form.form) (texts_of c.args.words.now) c.in_ok-matches.field-0 = c.in_ok-matches.ensures in
    let some : Parses run_app (texts_of c.args.words.now) (Some c.in-Some.matches) = rw (c.in_ok-form.ensures, c.in-Some.is) at parses in
    run_no_feed (texts_of c.args.words.now) (found_of c.in-Some.matches) (run_some (texts_of c.args.words.now) c.in-Some.matches c.requires some)
    c.in_default-get_str-2.ensures

pub returns-in_default-steps_of : goal.returns-in_default-steps_of
returns-in_default-steps_of c =
    let parses : Parses (app_of c.in_ok-form.form) (texts_of c.args.words.now) c.in_ok-matches.field-0 = c.in_ok-matches.ensures in
    let some : Parses run_app (texts_of c.args.words.now) (Some c.in-Some.matches) = rw (c.in_ok-form.ensures, c.in-Some.is) at parses in
    run_no_steps (texts_of c.args.words.now) (found_of c.in-Some.matches) c.in-Some-get_str.source.now c.in-Some-get_str-2.feed.now
    (run_some (texts_of c.args.words.now) c.in-Some.matches c.requires some) c.in-Some-get_str.ensures c.in-Some-get_str-2.ensures
    (rw c.get_str-3.ensures at c.in_default-steps_of.ensures)

pub returns : goal.returns
returns c =
    let parses : Parses (app_of c.in_ok-form.form) (texts_of c.args.words.now) c.in_ok-matches.field-0 = c.in_ok-matches.ensures in
    let some : Parses run_app (texts_of c.args.words.now) (Some c.in-Some.matches) = rw (c.in_ok-form.ensures, c.in-Some.is) at parses in
    run_answer (texts_of c.args.words.now) (found_of c.in-Some.matches) c.in-Some-get_str.source.now c.in-Some-get_str-2.feed.now c.in-Some-steps_of.steps
    (run_some (texts_of c.args.words.now) c.in-Some.matches c.requires some) c.in-Some-get_str.ensures c.in-Some-get_str-2.ensures
    (rw c.get_str-3.ensures at c.in-Some-steps_of.ensures)
