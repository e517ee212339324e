use Rattle.affc_rows.proofs.VocabularyLemmas.{mixture_width}
use Rattle.affc_rows.proofs.form.Form.mixture.Goals as goal

pub returns-in-Ok-clause-width : goal.returns-in-Ok-clause-width
returns-in-Ok-clause-width c = mixture_width _ c.args.a.now _ c.args.b.now c.in-Ok.form c.requires.columns c.in-Ok.ensures.ok
