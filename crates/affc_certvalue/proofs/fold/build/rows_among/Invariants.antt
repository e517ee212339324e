use Rattle.std.proofs.Common.{◌≡◌, map, take}
use Rattle.serde_json.specs.View.{view}
use Rattle.affc_certvalue.specs.Values.{numbers_value}
use Rattle.affc_certvalue.specs.fold.Entries.{coefs_of}
use Rattle.affc_certvalue.specs.fold.Bases.{plain}
use Rattle.affc_certvalue.proofs.fold.build.rows_among.Given as goal

abbrev pub invariant-loop-value : goal.invariant-loop-value
invariant-loop-value l =
    record {
      values : map numbers_value (coefs_of l.rows) ≡ map view (take l.value-index l.items);
      plain : l.rows ≡ plain (coefs_of l.rows);
    }
