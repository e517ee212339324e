-- What the definition and clap's walk say of the same words.
use Rattle.std.proofs.Common.{◌≡◌, ◌∙◌, ◌≤◌, Bool, true, false, true≢false, List, [], ◌∷◌, ◌++◌, length, Option, Some, None, refl, sym, ap, arith}
use Rattle.std.proofs.lemmas.Bool.{and_parts}
use Rattle.std.specs.Str.{bytes_eq}
use Rattle.clap.specs.Walk.{Row}
use Rattle.clap.specs.Kinds.{Kinds}
use Rattle.affc_words.specs.Command.{Parts, with_operand, with_option, among, without, are_options, value_of}
use Rattle.affc_words.proofs.Clap.Uses.{Text, Uses, or_value, or_value-assoc, paired, value_of-append, same_name, not_given, not_paired}
use Rattle.affc_words.proofs.Clap.Plain.{rows_for}

-- Both take the words: the parts fit the names that are left, and the rows are of these uses.
pub record Both (uses : Uses) (ids names : List Text) (read : Option Parts) (kinds : Kinds) (rows : List Row) : Type 0 where
  pub faultless : kinds ≡ []
  pub parts : Parts
  pub is : read ≡ Some parts
  pub short : length parts.operands ≤ length ids
  pub options : are_options names parts.options ≡ true
  pub final : Uses
  pub rows_are : rows ≡ rows_for final
  pub values : (x : Text) → value_of x final ≡ or_value (value_of x uses) (value_of x (paired ids parts.operands ++ parts.options))

-- Neither takes them.
pub record Neither (ids names : List Text) (read : Option Parts) (kinds : Kinds) : Type 0 where
  pub faulty : kinds ≡ [] → ⊥
  pub unfit : (q : Parts) → read ≡ Some q → length q.operands ≤ length ids → are_options names q.options ≡ true → ⊥

pub data Verdict (uses : Uses) (ids names : List Text) (read : Option Parts) (kinds : Kinds) (rows : List Row) : Type 0 where
  both : Both uses ids names read kinds rows → Verdict uses ids names read kinds rows
  neither : Neither ids names read kinds → Verdict uses ids names read kinds rows

pub verdict-at : (uses : Uses) (ids names : List Text) (read read' : Option Parts) (kinds kinds' : Kinds) (rows rows' : List Row) → read' ≡ read → kinds' ≡ kinds → rows' ≡ rows
    → Verdict uses ids names read kinds rows → Verdict uses ids names read' kinds' rows'
verdict-at uses ids names read read' kinds kinds' rows rows' a b d (both v) = both (record {
  faultless = b ∙ v.faultless;
  parts = v.parts;
  is = a ∙ v.is;
  short = v.short;
  options = v.options;
  final = v.final;
  rows_are = d ∙ v.rows_are;
  values = v.values;
})
verdict-at uses ids names read read' kinds kinds' rows rows' a b d (neither v) = neither (record {
  faulty = λ e. v.faulty (sym b ∙ e);
  unfit = λ q is. v.unfit q (sym a ∙ is);
})

-- ---- No words

or_value-none : (a : Option Text) → or_value a None ≡ a
or_value-none None = refl
or_value-none (Some v) = refl

paired-none : (ids : List Text) → paired ids [] ≡ []
paired-none [] = refl
paired-none (id ∷ ids) = refl

pub both-nil : (uses : Uses) (ids names : List Text) (kinds : Kinds) (rows : List Row) → kinds ≡ [] → rows ≡ rows_for uses
    → Both uses ids names (Some (record { operands = []; options = [] })) kinds rows
both-nil uses ids names kinds rows e is = record {
  faultless = e;
  parts = record { operands = []; options = [] };
  is = refl;
  short = omega arith;
  options = refl;
  final = uses;
  rows_are = is;
  values = λ x. rw paired-none (sym (or_value-none (value_of x uses)));
}

-- ---- One operand more

value_of-cons : (x : Text) (u : Text × Text) (uses : Uses) → value_of x (u ∷ uses) ≡ or_value (value_of x (u ∷ [])) (value_of x uses)
value_of-cons x u uses = value_of-append x (u ∷ []) uses

no_parts : (q : Parts) → ◌≡◌ {A = Option Parts} None (Some q) → ⊥
no_parts q e = cc

some_parts : (p q : Parts) → ◌≡◌ {A = Option Parts} (Some p) (Some q) → p ≡ q
some_parts p q e = cc

pub verdict-operand : (uses : Uses) (id v : Text) (ids names : List Text) (read : Option Parts) (kinds : Kinds) (rows : List Row)
    → Verdict (uses ++ (id, v) ∷ []) ids names read kinds rows → Verdict uses (id ∷ ids) names (with_operand v read) kinds rows
verdict-operand uses id v ids names read kinds rows (both b) = both (record {
  faultless = b.faultless;
  parts = record { operands = v ∷ b.parts.operands; options = b.parts.options };
  is = ap (with_operand v) b.is;
  short = omega arith;
  options = b.options;
  final = b.final;
  rows_are = b.rows_are;
  values = λ x.
      let rest = paired ids b.parts.operands ++ b.parts.options in
      b.values x ∙ ap (λ o. or_value o (value_of x rest)) (value_of-append x uses ((id, v) ∷ []))
      ∙ or_value-assoc (value_of x uses) (value_of x ((id, v) ∷ [])) (value_of x rest)
      ∙ ap (or_value (value_of x uses)) (sym (value_of-cons x (id, v) rest));
})
verdict-operand uses id v ids names None kinds rows (neither n) = neither (record { faulty = n.faulty; unfit = λ q is. absurd (no_parts q is) })
verdict-operand uses id v ids names (Some p) kinds rows (neither n) = neither (record {
  faulty = n.faulty;
  unfit = λ q is short options.
      let same : ◌≡◌ {A = Parts} (record { operands = v ∷ p.operands; options = p.options }) q = some_parts _ q is in
      let operands : v ∷ p.operands ≡ q.operands = ap (λ (r : Parts). r.operands) same in
      let shorter : length p.operands ≤ length ids = omega (arith, ap length operands) in
      n.unfit p refl shorter (ap (λ (r : Parts). are_options names r.options) same ∙ options);
})

-- an operand more than there are
pub neither-operand : (v : Text) (names : List Text) (read : Option Parts) (kinds : Kinds) → (kinds ≡ [] → ⊥) → Neither [] names (with_operand v read) kinds
neither-operand v names None kinds bad = record { faulty = bad; unfit = λ q is. absurd (no_parts q is) }
neither-operand v names (Some p) kinds bad = record {
  faulty = bad;
  unfit = λ q is short options.
      let same : ◌≡◌ {A = Parts} (record { operands = v ∷ p.operands; options = p.options }) q = some_parts _ q is in
      let operands : v ∷ p.operands ≡ q.operands = ap (λ (r : Parts). r.operands) same in
      absurd (omega (arith, ap length operands));
}

-- no parts
pub neither-none : (ids names : List Text) (read : Option Parts) (kinds : Kinds) → (kinds ≡ [] → ⊥) → read ≡ None → Neither ids names read kinds
neither-none ids names read kinds bad none = record { faulty = bad; unfit = λ q is. absurd (no_parts q (sym none ∙ is)) }

-- ---- One option more

or_value-swap : (x n v : Text) (a : Option Text) → (bytes_eq n x ≡ true → a ≡ None)
    → (b : Option Text) → or_value (value_of x ((n, v) ∷ [])) (or_value a b) ≡ or_value a (or_value (value_of x ((n, v) ∷ [])) b)
or_value-swap x n v a none b = go (bytes_eq n x) refl
  where
    go : (t : Bool) → bytes_eq n x ≡ t → or_value (value_of x ((n, v) ∷ [])) (or_value a b) ≡ or_value a (or_value (value_of x ((n, v) ∷ [])) b)
    go true e = rw (e, none e) refl
    go false e = rw e refl

-- a name that is no operand's may stand in front of the operands
values-swap : (x n v : Text) (ids operands : List Text) (options : Uses) → among n ids ≡ false
    → or_value (value_of x ((n, v) ∷ [])) (value_of x (paired ids operands ++ options)) ≡ value_of x (paired ids operands ++ (n, v) ∷ options)
values-swap x n v ids operands options apart =
    let p = paired ids operands in
    let free : bytes_eq n x ≡ true → value_of x p ≡ None =
    λ e. let same : n ≡ x = same_name n x e in rw (← same) (not_given n p (not_paired n ids operands apart)) in
    ap (or_value (value_of x ((n, v) ∷ []))) (value_of-append x p options)
    ∙ or_value-swap x n v (value_of x p) free (value_of x options)
    ∙ ap (or_value (value_of x p)) (sym (value_of-cons x (n, v) options))
    ∙ sym (value_of-append x p ((n, v) ∷ options))

pub verdict-option : (uses : Uses) (n v : Text) (ids names : List Text) (read : Option Parts) (kinds : Kinds) (rows : List Row) → among n names ≡ true → among n ids ≡ false
    → Verdict (uses ++ (n, v) ∷ []) ids (without n names) read kinds rows → Verdict uses ids names (with_option n v read) kinds rows
verdict-option uses n v ids names read kinds rows has apart (both b) = both (record {
  faultless = b.faultless;
  parts = record { operands = b.parts.operands; options = (n, v) ∷ b.parts.options };
  is = ap (with_option n v) b.is;
  short = b.short;
  options = rw has b.options;
  final = b.final;
  rows_are = b.rows_are;
  values = λ x.
      let rest = paired ids b.parts.operands ++ b.parts.options in
      b.values x ∙ ap (λ o. or_value o (value_of x rest)) (value_of-append x uses ((n, v) ∷ []))
      ∙ or_value-assoc (value_of x uses) (value_of x ((n, v) ∷ [])) (value_of x rest)
      ∙ ap (or_value (value_of x uses)) (values-swap x n v ids b.parts.operands b.parts.options apart);
})
verdict-option uses n v ids names None kinds rows has apart (neither b) = neither (record { faulty = b.faulty; unfit = λ q is. absurd (no_parts q is) })
verdict-option uses n v ids names (Some p) kinds rows has apart (neither b) = neither (record {
  faulty = b.faulty;
  unfit = λ q is short options.
      let same : ◌≡◌ {A = Parts} (record { operands = p.operands; options = (n, v) ∷ p.options }) q = some_parts _ q is in
      let own = ap (λ (r : Parts). are_options names r.options) same ∙ options in
      let shorter : length p.operands ≤ length ids = omega (arith, ap (λ (r : Parts). length r.operands) same) in
      b.unfit p refl shorter (and_parts (among n names) (are_options (without n names) p.options) own).1;
})

-- an option that isn't left
pub neither-option : (n v : Text) (ids names : List Text) (read : Option Parts) (kinds : Kinds) → (kinds ≡ [] → ⊥) → among n names ≡ false
    → Neither ids names (with_option n v read) kinds
neither-option n v ids names None kinds bad none = record { faulty = bad; unfit = λ q is. absurd (no_parts q is) }
neither-option n v ids names (Some p) kinds bad none = record {
  faulty = bad;
  unfit = λ q is short options.
      let same : ◌≡◌ {A = Parts} (record { operands = p.operands; options = (n, v) ∷ p.options }) q = some_parts _ q is in
      let own = ap (λ (r : Parts). are_options names r.options) same ∙ options in
      absurd (true≢false (sym (and_parts (among n names) (are_options (without n names) p.options) own).0 ∙ none));
}
