-- What is found in the matches is what the definition says.
use Rattle.std.proofs.Common.{sym, Some, None}
use Rattle.clap.specs.Matches.{found_of}
use Rattle.clap.specs.Simple.{app_of}
use Rattle.affc_words.specs.Command.{texts_of}
use Rattle.affc_words.specs.Parsed.{Parses, replay_app}
use Rattle.affc_words.proofs.Forms.Replay.{replay_none, replay_some, replay_no_source, replay_no_schedule, replay_no_certificate, replay_answer}
use Rattle.affc_words.proofs.words.read_replay.Goals as goal

pub returns-in_default : goal.returns-in_default
returns-in_default c =
    let parses : Parses (app_of c.in_ok-form.form) (texts_of c.args.words.now) c.in_ok-matches.field-0 = c.in_ok-matches.ensures in
    let none : Parses replay_app (texts_of c.args.words.now) None = rw (c.in_ok-form.ensures, c.in_default.is) at parses in
    sym (replay_none (texts_of c.args.words.now) c.requires none)

pub returns-in_default-get_str : goal.returns-in_default-get_str
returns-in_default-get_str c =
    let parses : Parses (app_of c.in_ok-form.form) (texts_of c.args.words.now) c.in_ok-matches.field-0 = c.in_ok-matches.ensures in
    let some : Parses replay_app (texts_of c.args.words.now) (Some c.in-Some.matches) = rw (c.in_ok-form.ensures, c.in-Some.is) at parses in
    replay_no_source (texts_of c.args.words.now) (found_of c.in-Some.matches) (replay_some (texts_of c.args.words.now) c.in-Some.matches c.requires some)
    c.in_default-get_str.ensures

pub returns-in_default-get_str-2 : goal.returns-in_default-get_str-2
returns-in_default-get_str-2 c =
    let parses : Parses (app_of c.in_ok-form.form) (texts_of c.args.words.now) c.in_ok-matches.field-0 = c.in_ok-matches.ensures in
    let some : Parses replay_app (texts_of c.args.words.now) (Some c.in-Some.matches) = rw (c.in_ok-form.ensures, c.in-Some.is) at parses in
    replay_no_schedule (texts_of c.args.words.now) (found_of c.in-Some.matches) (replay_some (texts_of c.args.words.now) c.in-Some.matches c.requires some)
    c.in_default-get_str-2.ensures

pub returns-in_default-get_str-3 : goal.returns-in_default-get_str-3
returns-in_default-get_str-3 c =
    let parses : Parses (app_of c.in_ok-form.form) (texts_of c.args.words.now) c.in_ok-matches.field-0 = c.in_ok-matches.ensures in
    let some : Parses replay_app (texts_of c.args.words.now) (Some c.in-Some.matches) = rw (c.in_ok-form.ensures, c.in-Some.is) at parses in
    replay_no_certificate (texts_of c.args.words.now) (found_of c.in-Some.matches) (replay_some (texts_of c.args.words.now) c.in-Some.matches c.requires some)
    c.in_default-get_str-3.ensures

pub returns : goal.returns
returns c =
    let parses : Parses (app_of c.in_ok-form.form) (texts_of c.args.words.now) c.in_ok-matches.field-0 = c.in_ok-matches.ensures in
    let some : Parses replay_app (texts_of c.args.words.now) (Some c.in-Some.matches) = rw (c.in_ok-form.ensures, c.in-Some.is) at parses in
    replay_answer (texts_of c.args.words.now) (found_of c.in-Some.matches) c.in-Some-get_str.source.now c.in-Some-get_str-2.schedule.now c.in-Some-get_str-3.certificate.now
    (replay_some (texts_of c.args.words.now) c.in-Some.matches c.requires some) c.in-Some-get_str.ensures c.in-Some-get_str-2.ensures c.in-Some-get_str-3.ensures
