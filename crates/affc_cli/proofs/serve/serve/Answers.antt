use Rattle.std.proofs.Common.{refl, arith}
use Rattle.affc_words.specs.Command.{texts_of}
use Rattle.affc_lines.specs.declared.refusal.Refusal.TheVariants.{Memory}
use Rattle.affc_cli.proofs.Ending.{said, short_serves}
use Rattle.affc_cli.proofs.serve.serve.Goals as goal

pub returns-in-Err : goal.returns-in-Err
returns-in-Err g c =
    short_serves (texts_of c.args.words.now) _ _ c.tell_short.result
    (said Memory _ _ c.tell_short.result c.tell_short.ensures.status refl refl c.tell_short.ensures.told
    (record {
      names = refl;
      faults = omega arith;
      shortages = omega arith;
      out = record { faults = omega arith; shortages = omega arith };
      err = c.tell_short.ensures.counts;
    }))
