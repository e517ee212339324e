use Rattle.std.proofs.Common.{◌++◌, codes, refl, ap}
use Rattle.affc_lines.specs.declared.refusal.Refusal.TheVariants.{Words, Unread, Source, Printed, Schedule, Meaning, Stuck, Illegal, Budget, Memory, Certificate, Check, Steps, Data}
use Rattle.affc_lines.proofs.Telling.{plain_told, memory_told, made_line}
use Rattle.affc_lines.proofs.refusal.Refusal.tell.Goals.{in-Words, in-Unread, in-Source+in-Ok, in-Printed+in-Ok-source_line, in-Schedule, in-Meaning, in-Stuck, in-Illegal, in-Budget, in-Memory, in-Certificate+in-Ok-certificate_line, in-Check+in-Ok-check_line, in-Steps, in-Data+in-Ok-data_line}
use Rattle.affc_lines.proofs.refusal.Refusal.tell.Goals as goal

pub returns-in-Err-clause-told : goal.returns-in-Err-clause-told
returns-in-Err-clause-told g c = memory_told c.args.self.now c.args.name.now _ _ c.tell_short.result c.tell_short.ensures.status c.tell_short.ensures.told

pub returns-in-Err-source_line-clause-told : goal.returns-in-Err-source_line-clause-told
returns-in-Err-source_line-clause-told g c =
    memory_told c.args.self.now c.args.name.now _ _ c.tell_short-in-Err-source_line.result c.tell_short-in-Err-source_line.ensures.status c.tell_short-in-Err-source_line.ensures.told

pub returns-in-Err-certificate_line-clause-told : goal.returns-in-Err-certificate_line-clause-told
returns-in-Err-certificate_line-clause-told g c =
    memory_told c.args.self.now c.args.name.now _ _ c.tell_short-in-Err-certificate_line.result c.tell_short-in-Err-certificate_line.ensures.status c.tell_short-in-Err-certificate_line.ensures.told

pub returns-in-Err-check_line-clause-told : goal.returns-in-Err-check_line-clause-told
returns-in-Err-check_line-clause-told g c =
    memory_told c.args.self.now c.args.name.now _ _ c.tell_short-in-Err-check_line.result c.tell_short-in-Err-check_line.ensures.status c.tell_short-in-Err-check_line.ensures.told

pub returns-in-Err-data_line-clause-told : goal.returns-in-Err-data_line-clause-told
returns-in-Err-data_line-clause-told g c =
    memory_told c.args.self.now c.args.name.now _ _ c.tell_short-in-Err-data_line.result c.tell_short-in-Err-data_line.ensures.status c.tell_short-in-Err-data_line.ensures.told

pub returns-clause-told : goal.returns-clause-told
returns-clause-told g c =
    elim c.match-self.branch [
      | in-Words w ↦ plain_told Words c.args.self.now c.args.name.now _ _ _ _ c.status.result w.in-Words.is c.status.ensures refl (ap g.E.Sink.state w.err-is) w.put_line.ensures.told
      | in-Unread w ↦ plain_told (Unread w.in-Unread.file w.in-Unread.why) c.args.self.now c.args.name.now _ _ _ _ c.status.result w.in-Unread.is c.status.ensures (ap (λ l. l ++ c.args.name.now ++ codes "\n") w.words.ensures) (ap g.E.Sink.state w.err-is) w.put_line-in-Unread.ensures.told
      | in-Source+in-Ok w ↦ plain_told (Source w.in-Source.fault) c.args.self.now c.args.name.now _ _ _ _ c.status.result w.in-Source.is c.status.ensures (made_line w.as_str.result.now _ _ w.as_str.ensures.value w.in-Ok.ensures) (ap g.E.Sink.state w.err-is) w.put_line-in-Ok.ensures.told
      | in-Printed+in-Ok-source_line w ↦ plain_told (Printed w.in-Printed.place) c.args.self.now c.args.name.now _ _ _ _ c.status.result w.in-Printed.is c.status.ensures (made_line w.as_str-in-Ok-source_line.result.now _ _ w.as_str-in-Ok-source_line.ensures.value w.in-Ok-source_line.ensures) (ap g.E.Sink.state w.err-is) w.put_line-in-Ok-source_line.ensures.told
      | in-Schedule w ↦ plain_told (Schedule w.in-Schedule.line) c.args.self.now c.args.name.now _ _ _ _ c.status.result w.in-Schedule.is c.status.ensures (made_line w.as_str-in-Schedule.result.now _ _ w.as_str-in-Schedule.ensures refl) (ap g.E.Sink.state w.err-is) w.put_line-in-Schedule.ensures.told
      | in-Meaning w ↦ plain_told (Meaning w.in-Meaning.line) c.args.self.now c.args.name.now _ _ _ _ c.status.result w.in-Meaning.is c.status.ensures (made_line w.as_str-in-Meaning.result.now _ _ w.as_str-in-Meaning.ensures refl) (ap g.E.Sink.state w.err-is) w.put_line-in-Meaning.ensures.told
      | in-Stuck w ↦ plain_told (Stuck w.in-Stuck.line) c.args.self.now c.args.name.now _ _ _ _ c.status.result w.in-Stuck.is c.status.ensures (made_line w.as_str-in-Stuck.result.now _ _ w.as_str-in-Stuck.ensures refl) (ap g.E.Sink.state w.err-is) w.put_line-in-Stuck.ensures.told
      | in-Illegal w ↦ plain_told (Illegal w.in-Illegal.line) c.args.self.now c.args.name.now _ _ _ _ c.status.result w.in-Illegal.is c.status.ensures (made_line w.as_str-in-Illegal.result.now _ _ w.as_str-in-Illegal.ensures refl) (ap g.E.Sink.state w.err-is) w.put_line-in-Illegal.ensures.told
      | in-Budget w ↦ plain_told Budget c.args.self.now c.args.name.now _ _ _ _ c.status.result w.in-Budget.is c.status.ensures refl (ap g.E.Sink.state w.err-is) w.put_line-in-Budget.ensures.told
      | in-Memory w ↦ plain_told Memory c.args.self.now c.args.name.now _ _ _ _ c.status.result w.in-Memory.is c.status.ensures refl (ap g.E.Sink.state w.err-is) w.put_line-in-Memory.ensures.told
      | in-Certificate+in-Ok-certificate_line w ↦ plain_told (Certificate w.in-Certificate.fault) c.args.self.now c.args.name.now _ _ _ _ c.status.result w.in-Certificate.is c.status.ensures (made_line w.as_str-in-Ok-certificate_line.result.now _ _ w.as_str-in-Ok-certificate_line.ensures.value w.in-Ok-certificate_line.ensures) (ap g.E.Sink.state w.err-is) w.put_line-in-Ok-certificate_line.ensures.told
      | in-Check+in-Ok-check_line w ↦ plain_told (Check w.in-Check.fault) c.args.self.now c.args.name.now _ _ _ _ c.status.result w.in-Check.is c.status.ensures (made_line w.as_str-in-Ok-check_line.result.now _ _ w.as_str-in-Ok-check_line.ensures.value w.in-Ok-check_line.ensures) (ap g.E.Sink.state w.err-is) w.put_line-in-Ok-check_line.ensures.told
      | in-Steps w ↦ plain_told Steps c.args.self.now c.args.name.now _ _ _ _ c.status.result w.in-Steps.is c.status.ensures refl (ap g.E.Sink.state w.err-is) w.put_line-in-Steps.ensures.told
      | in-Data+in-Ok-data_line w ↦ plain_told (Data w.in-Data.number) c.args.self.now c.args.name.now _ _ _ _ c.status.result w.in-Data.is c.status.ensures (made_line w.as_str-in-Ok-data_line.result.now _ _ w.as_str-in-Ok-data_line.ensures.value w.in-Ok-data_line.ensures) (ap g.E.Sink.state w.err-is) w.put_line-in-Ok-data_line.ensures.told
    ]
