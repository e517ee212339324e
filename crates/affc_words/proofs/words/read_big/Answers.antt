-- What is found in the matches is what the definition says.
use Rattle.std.proofs.Common.{sym, Some, None}
use Rattle.clap.specs.Matches.{found_of}
use Rattle.clap.specs.Simple.{app_of}
use Rattle.affc_words.specs.Command.{texts_of}
use Rattle.affc_words.specs.Parsed.{Parses, big_app}
use Rattle.affc_words.proofs.Forms.Big.{big_none, big_some, big_missing, big_no_number, big_answer}
use Rattle.affc_words.proofs.words.read_big.Goals as goal

pub returns-in_default : goal.returns-in_default
returns-in_default c =
    let parses : Parses (app_of c.in_ok-form.form) (texts_of c.args.words.now) c.in_ok-matches.field-0 = c.in_ok-matches.ensures in
    let none : Parses big_app (texts_of c.args.words.now) None = rw (c.in_ok-form.ensures, c.in_default.is) at parses in
    sym (big_none (texts_of c.args.words.now) c.requires none)

pub returns-in_default-get_str : goal.returns-in_default-get_str
returns-in_default-get_str c =
    let parses : Parses (app_of c.in_ok-form.form) (texts_of c.args.words.now) c.in_ok-matches.field-0 = c.in_ok-matches.ensures in
    let some : Parses big_app (texts_of c.args.words.now) (Some c.in-Some.matches) = rw (c.in_ok-form.ensures, c.in-Some.is) at parses in
    big_missing (texts_of c.args.words.now) (found_of c.in-Some.matches) (big_some (texts_of c.args.words.now) c.in-Some.matches c.requires some)
    c.in_default-get_str.ensures

pub returns-in_default-stages_of : goal.returns-in_default-stages_of
returns-in_default-stages_of c =
    let parses : Parses (app_of c.in_ok-form.form) (texts_of c.args.words.now) c.in_ok-matches.field-0 = c.in_ok-matches.ensures in
    let some : Parses big_app (texts_of c.args.words.now) (Some c.in-Some.matches) = rw (c.in_ok-form.ensures, c.in-Some.is) at parses in
    big_no_number (texts_of c.args.words.now) (found_of c.in-Some.matches) c.in-Some-get_str.text.now (big_some (texts_of c.args.words.now) c.in-Some.matches c.requires some)
    c.in-Some-get_str.ensures c.in_default-stages_of.ensures

pub returns : goal.returns
returns c =
    let parses : Parses (app_of c.in_ok-form.form) (texts_of c.args.words.now) c.in_ok-matches.field-0 = c.in_ok-matches.ensures in
    let some : Parses big_app (texts_of c.args.words.now) (Some c.in-Some.matches) = rw (c.in_ok-form.ensures, c.in-Some.is) at parses in
    big_answer (texts_of c.args.words.now) (found_of c.in-Some.matches) c.in-Some-get_str.text.now c.in-Some-stages_of.stages.count
    (big_some (texts_of c.args.words.now) c.in-Some.matches c.requires some) c.in-Some-get_str.ensures c.in-Some-stages_of.ensures
