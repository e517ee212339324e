-- Data is read from line to line.
use Rattle.std.proofs.Common.{◌≡◌, ◌<◌, ◌+◌, ◌^◌, ℕ, zero, suc, ℤ, Bool, true, false, ◌&&◌, ◌==◌, List, [], ◌∷◌, ◌++◌, length, take, Result, Ok, Err, Option, refl, sym, ap, subst, ◌∙◌, arith, append_assoc}
use Rattle.std.specs.Prelude.{IsTrue, Vec, SomeIff}
use Rattle.affc_ast.specs.declared.tree.Ix.{Ix}
use Rattle.affc_ast.specs.Meaning.{extents_of}
use Rattle.std.specs.declared.alloc.Global.{Global}
use denote.Ref.{Bor}
use Rattle.std.proofs.lemmas.Bool.{and_parts, true≢false, eq-eqb, eqb-true}
use Rattle.affc_ast.specs.declared.tree.Compare.{Compare}
use Rattle.affc_interp.specs.declared.feed.Stop.{Stop}
use Rattle.affc_interp.specs.declared.feed.Stop.TheVariants as stop
use Rattle.std.proofs.lemmas.List.{append-nil, take_all}
use Rattle.affc_ast.specs.declared.tree.Decl.{Decl}
use Rattle.affc_ast.specs.declared.tree.Param.{Param}
use Rattle.affc_ast.specs.declared.tree.Param.TheVariants.{Number, Array}
use Rattle.affc_ast.specs.declared.tree.Program.{Program}
use Rattle.affc_ast.specs.Fits.{meets}
use Rattle.affc_interp.specs.declared.feed.Feed.{Feed}
use Rattle.affc_interp.specs.declared.feed.FeedFault.{FeedFault}
use Rattle.affc_interp.specs.declared.feed.FeedFault.TheVariants.{Line, Memory}
use Rattle.affc_interp.specs.Arrays.{values_in}
use Rattle.affc_interp.specs.DataText.{NumberLine, ArrayLine, elements_in, element_count, HasLines, FeedReads, BeginsRight, RightUpTo, IsWrongLine}
use Rattle.affc_interp.specs.Scans.{OneNumberLine, AnswersLine}
use Rattle.affc_interp.specs.Feeds.{OnlyLines, ReadsLines, AnswersFeed}
use Rattle.affc_interp.proofs.DataLines.{one_array_line}

nothing_left : (xs : List ℕ) → length xs ≡ 0 → xs ≡ []
nothing_left [] e = refl
nothing_left (x ∷ xs) e = absurd (omega arith)

-- ---- No more lines

pub no_lines : (before p : List ℤ) (values : List (List ℕ)) (text rest : List ℕ) → HasLines before [] p values text rest → ([] ≡ p) × ([] ≡ values) × (text ≡ rest)
no_lines before [] [] text rest h = (refl, refl, h)
no_lines before [] (vs ∷ values) text rest h = absurd h
no_lines before (z ∷ p) [] text rest h = absurd h
no_lines before (z ∷ p) (vs ∷ values) text rest h = absurd h

pub read_none : (text : Bor (List ℕ)) (line : ℕ) (p : List ℤ) (values : List (List ℕ)) → ReadsLines (Ok text) [] text.now line p p values values
read_none text line p values = ([], [], sym (append-nil p), sym (append-nil values), (refl, λ q others more h. no_lines p q others text.now more h))

-- ---- A number's line

module _ (name : List ℕ) (low high : ℤ) (ps : List Param) (before : List ℤ) (text : List ℕ) where
  abbrev number_first : List Param
  number_first = Number name low high ∷ ps

  pub number_cut : (p : List ℤ) (values : List (List ℕ)) (rest : List ℕ) → HasLines before number_first p values text rest → (z : ℤ) × (zs : List ℤ) × (p ≡ z ∷ zs) × (next : List ℕ) × NumberLine name low high text z next × HasLines (before ++ z ∷ []) ps zs values next rest
  number_cut [] values rest h = absurd h
  number_cut (z ∷ zs) values rest h = (z, zs, refl, h.0, h.1, h.2)

  pub number_wrong : (line : ℕ) (p1 : List ℤ) (values values1 : List (List ℕ)) → ((z : ℤ) (rest : List ℕ) → NumberLine name low high text z rest → ⊥) → ReadsLines (Err (Line line)) number_first text line before p1 values values1
  number_wrong line p1 values values1 none = (
    0,
    omega arith,
    omega arith,
    record {
      within = omega arith;
      right = ([], [], text, refl);
      wrong = λ lt b. let c = cut_one b.0 b.1 b.2 b.3 in none c.0 c.1 c.2;
    },
  ) where
    cut_one : (p : List ℤ) (vss : List (List ℕ)) (rest : List ℕ) → HasLines before (take 1 number_first) p vss text rest → (z : ℤ) × (next : List ℕ) × NumberLine name low high text z next
    cut_one [] vss rest h = absurd h
    cut_one (z ∷ zs) vss rest h = (z, h.0, h.1)

  module _ (z : ℤ) (next : List ℕ) (here : OneNumberLine name low high text z next) where
    number_same : (p : List ℤ) (values : List (List ℕ)) (rest : List ℕ) (qs : List Param) → HasLines before (Number name low high ∷ qs) p values text rest → (zs : List ℤ) × (z ∷ zs ≡ p) × HasLines (before ++ z ∷ []) qs zs values next rest
    number_same [] values rest qs h = absurd h
    number_same (y ∷ ys) values rest qs h =
        let u = here.1 y h.0 h.1 in
        (ys, ap (λ x. x ∷ ys) u.0, subst (λ x. HasLines (before ++ x ∷ []) qs ys values next rest) (sym u.0) (subst (λ t. HasLines (before ++ y ∷ []) qs ys values t rest) (sym u.1) h.2))

    number_only : (p : List ℤ) (values : List (List ℕ)) (rest : List ℕ) → OnlyLines (before ++ z ∷ []) ps p values next rest → OnlyLines before number_first (z ∷ p) values text rest
    number_only p values rest o = (
      (next, here.0, o.0),
      λ q others more h.
          let c = number_same q others more ps h in
          let u = o.1 c.0 others more c.2 in
          (ap (λ zs. z ∷ zs) u.0 ∙ c.1, u.1, u.2),
    )

    number_up_to : (m : ℕ) → RightUpTo (before ++ z ∷ []) ps next m → RightUpTo before number_first text (suc m)
    number_up_to m r = record {
      within = omega (arith, r.within);
      right = let b = r.right in (z ∷ b.0, b.1, b.2, (next, here.0, b.3));
      wrong = λ lt b. let c = number_same b.0 b.1 b.2 (take (suc m) ps) b.3 in r.wrong (omega arith) (c.0, b.1, b.2, c.2);
    }

    pub number_then : (r : Result (Bor (List ℕ)) FeedFault) (line : ℕ) (p0 p1 : List ℤ) (values0 values1 : List (List ℕ)) → p0 ≡ before ++ z ∷ [] → ReadsLines r ps next (line + 1) p0 p1 values0 values1 → ReadsLines r number_first text line before p1 values0 values1
    number_then (Ok rest) line p0 p1 values0 values1 e h =
        (z ∷ h.0, h.1, h.2 ∙ ap (λ l. l ++ h.0) e ∙ append_assoc before (z ∷ []) h.0, h.3, number_only h.0 h.1 rest.now (subst (λ b. OnlyLines b ps h.0 h.1 next rest.now) e h.4))
    number_then (Err (Line n)) line p0 p1 values0 values1 e h = (suc h.0, omega (arith, h.1), omega (arith, h.2), number_up_to h.0 (subst (λ b. RightUpTo b ps next h.0) e h.3))
    number_then (Err Memory) line p0 p1 values0 values1 e h = tt

-- ---- An array's line

module _ (d : Decl) (ps : List Param) (before : List ℤ) (text : List ℕ) where
  abbrev array_first : List Param
  array_first = Array d ∷ ps

  abbrev LineHere : List ℕ → List ℕ → Type 0
  LineHere vs next = ArrayLine d.name (element_count d before) text vs next

  pub array_cut : (qs : List Param) (p : List ℤ) (values : List (List ℕ)) (rest : List ℕ) → HasLines before (Array d ∷ qs) p values text rest → (vs : List ℕ) × (others : List (List ℕ)) × (vs ∷ others ≡ values) × (next : List ℕ) × LineHere vs next × HasLines before qs p others next rest
  array_cut qs p [] rest h = absurd h
  array_cut qs p (vs ∷ values) rest h = (vs, values, refl, h.0, h.1, h.2)

  pub array_wrong : (line : ℕ) (p1 : List ℤ) (values values1 : List (List ℕ)) → ((vs rest : List ℕ) → LineHere vs rest → ⊥) → ReadsLines (Err (Line line)) array_first text line before p1 values values1
  array_wrong line p1 values values1 none = (
    0,
    omega arith,
    omega arith,
    record {
      within = omega arith;
      right = ([], [], text, refl);
      wrong = λ lt b. let c = array_cut [] b.0 b.1 b.2 b.3 in none c.0 c.3 c.4;
    },
  )

  module _ (vs next : List ℕ) (here : LineHere vs next) where
    array_same : (qs : List Param) (p : List ℤ) (values : List (List ℕ)) (rest : List ℕ) → HasLines before (Array d ∷ qs) p values text rest → (others : List (List ℕ)) × (vs ∷ others ≡ values) × HasLines before qs p others next rest
    array_same qs p values rest h =
        let c = array_cut qs p values rest h in
        let u = one_array_line d.name (element_count d before) text vs next c.0 c.3 here c.4 in
        (c.1, ap (λ ws. ws ∷ c.1) u.0 ∙ c.2, subst (λ t. HasLines before qs p c.1 t rest) (sym u.1) c.5)

    array_only : (p : List ℤ) (values : List (List ℕ)) (rest : List ℕ) → OnlyLines before ps p values next rest → OnlyLines before array_first p (vs ∷ values) text rest
    array_only p values rest o = (
      (next, here, o.0),
      λ q others more h.
          let c = array_same ps q others more h in
          let u = o.1 q c.0 more c.2 in
          (u.0, ap (λ l. vs ∷ l) u.1 ∙ c.1, u.2),
    )

    array_up_to : (m : ℕ) → RightUpTo before ps next m → RightUpTo before array_first text (suc m)
    array_up_to m r = record {
      within = omega (arith, r.within);
      right = let b = r.right in (b.0, vs ∷ b.1, b.2, (next, here, b.3));
      wrong = λ lt b. let c = array_same (take (suc m) ps) b.0 b.1 b.2 b.3 in r.wrong (omega arith) (b.0, c.0, b.2, c.2);
    }

    pub array_then : (r : Result (Bor (List ℕ)) FeedFault) (line : ℕ) (p1 : List ℤ) (values0 values1 values : List (List ℕ)) → values0 ≡ values ++ vs ∷ [] → ReadsLines r ps next (line + 1) before p1 values0 values1 → ReadsLines r array_first text line before p1 values values1
    array_then (Ok rest) line p1 values0 values1 values e h =
        (h.0, vs ∷ h.1, h.2, h.3 ∙ ap (λ l. l ++ h.1) e ∙ append_assoc values (vs ∷ []) h.1, array_only h.0 h.1 rest.now h.4)
    array_then (Err (Line n)) line p1 values0 values1 values e h = (suc h.0, omega (arith, h.1), omega (arith, h.2), array_up_to h.0 h.3)
    array_then (Err Memory) line p1 values0 values1 values e h = tt

-- ---- The whole

-- what has all lines has the first ones
first_lines : (k : ℕ) (before : List ℤ) (ps : List Param) (p : List ℤ) (values : List (List ℕ)) (text rest : List ℕ) → HasLines before ps p values text rest → BeginsRight before (take k ps) text
first_lines zero before ps p values text rest h = ([], [], text, refl)
first_lines (suc k) before [] p values text rest h = ([], [], text, refl)
first_lines (suc k) before (Number name low high ∷ ps) p values text rest h =
    let c = number_cut name low high ps before text p values rest h in
    let f = first_lines k (before ++ c.0 ∷ []) ps c.1 values c.3 rest c.5 in
    (c.0 ∷ f.0, f.1, f.2, (c.3, c.4, f.3))
first_lines (suc k) before (Array d ∷ ps) p values text rest h =
    let c = array_cut d ps before text ps p values rest h in
    let f = first_lines k before ps p c.1 c.3 rest c.5 in
    (f.0, c.0 ∷ f.1, f.2, (c.3, c.4, f.3))

module _ (text : List ℕ) (program : Program) where
  pub wrong_line : (n : ℕ) (p1 : List ℤ) (values1 : List (List ℕ)) → ReadsLines (Err (Line n)) program.params text 1 [] p1 [] values1 → IsWrongLine text program n
  wrong_line n p1 values1 h = record {
    before = h.0;
    is_next = omega (arith, h.1);
    up_to = h.3;
    no_data = λ p values f. h.3.wrong h.2 (first_lines (suc h.0) [] program.params p values text [] f.lines);
  }

  module _ (p : List ℤ) (values : List (List ℕ)) (rest : List ℕ) (o : OnlyLines [] program.params p values text rest) where
    pub whole_data : rest ≡ [] → IsTrue (meets program.context p) → FeedReads text program p values × ((q : List ℤ) (others : List (List ℕ)) → FeedReads text program q others → (p ≡ q) × (values ≡ others))
    whole_data e met = (record { lines = subst (λ r. HasLines [] program.params p values text r) e o.0; context = met }, λ q others f. let u = o.1 q others [] f.lines in (u.0, u.1))

    pub past_lines : (n : ℕ) → n ≡ length program.params + 1 → ((rest ≡ []) × IsTrue (meets program.context p) → ⊥) → IsWrongLine text program n
    past_lines n e none = record {
      before = length program.params;
      is_next = omega (arith, e);
      up_to = record {
        within = omega arith;
        right = (p, values, rest, subst (λ ps. HasLines [] ps p values text rest) (sym (take_all (length program.params) program.params (omega arith))) o.0);
        wrong = λ lt b. omega arith;
      };
      no_data = λ q others f. let u = o.1 q others [] f.lines in none (u.2, subst (λ l. IsTrue (meets program.context l)) (sym u.0) f.context);
    }

-- ---- From line to line

pub empty_list : {X : Type 0} (xs : List X) → length xs < 1 → xs ≡ []
empty_list [] h = refl
empty_list (x ∷ xs) h = absurd (omega arith)

pub read_end : (text : Bor (List ℕ)) (ps : List Param) (line : ℕ) (p : List ℤ) (values : List (List ℕ)) → ps ≡ [] → ReadsLines (Ok text) ps text.now line p p values values
read_end text ps line p values e = subst (λ qs. ReadsLines (Ok text) qs text.now line p p values values) (sym e) (read_none text line p values)

pub number_step : (params others : List Param) (name : List ℕ) (low high z : ℤ) (text next : List ℕ) (r : Result (Bor (List ℕ)) FeedFault) (line : ℕ) (before p0 p1 : List ℤ) (values0 values1 : List (List ℕ))
    → params ≡ Number name low high ∷ others → OneNumberLine name low high text z next → p0 ≡ before ++ z ∷ [] → ReadsLines r others next (line + 1) p0 p1 values0 values1 → ReadsLines r params text line before p1 values0 values1
number_step params others name low high z text next r line before p0 p1 values0 values1 e here f h =
    subst (λ ps. ReadsLines r ps text line before p1 values0 values1) (sym e) (number_then name low high others before text z next here r line p0 p1 values0 values1 f h)

pub number_stop : (params others : List Param) (name : List ℕ) (low high : ℤ) (text : List ℕ) (line : ℕ) (before p1 : List ℤ) (values values1 : List (List ℕ))
    → params ≡ Number name low high ∷ others → ((z : ℤ) (rest : List ℕ) → NumberLine name low high text z rest → ⊥) → ReadsLines (Err (Line line)) params text line before p1 values values1
number_stop params others name low high text line before p1 values values1 e none =
    subst (λ ps. ReadsLines (Err (Line line)) ps text line before p1 values values1) (sym e) (number_wrong name low high others before text line p1 values values1 none)

pub array_step : (params others : List Param) (d : Decl) (vs text next : List ℕ) (r : Result (Bor (List ℕ)) FeedFault) (line : ℕ) (before p0 p1 : List ℤ) (values values0 values1 : List (List ℕ))
    → params ≡ Array d ∷ others → ArrayLine d.name (element_count d before) text vs next → p0 ≡ before → values0 ≡ values ++ vs ∷ [] → ReadsLines r others next (line + 1) p0 p1 values0 values1 → ReadsLines r params text line before p1 values values1
array_step params others d vs text next r line before p0 p1 values values0 values1 e here same f h =
    subst (λ ps. ReadsLines r ps text line before p1 values values1) (sym e)
    (array_then d others before text vs next here r line p1 values0 values1 values f (subst (λ p. ReadsLines r others next (line + 1) p p1 values0 values1) same h))

pub array_stop : (params others : List Param) (d : Decl) (text : List ℕ) (line : ℕ) (before p1 : List ℤ) (values values1 : List (List ℕ))
    → params ≡ Array d ∷ others → ((vs rest : List ℕ) → ArrayLine d.name (element_count d before) text vs rest → ⊥) → ReadsLines (Err (Line line)) params text line before p1 values values1
array_stop params others d text line before p1 values values1 e none =
    subst (λ ps. ReadsLines (Err (Line line)) ps text line before p1 values values1) (sym e) (array_wrong d others before text line p1 values values1 none)

-- the number of elements, as the code has read it
pub counted_so : (count : Option ℕ) (extents : List Ix) (d : Decl) (names before : List ℤ) → extents ≡ d.extents → names ≡ before → SomeIff count (elements_in (extents_of 0 extents 0 names) < 2 ^ 64) (elements_in (extents_of 0 extents 0 names)) → SomeIff count (element_count d before < 2 ^ 64) (element_count d before)
counted_so count extents d names before e f h = subst (λ m. SomeIff count (m < 2 ^ 64) m) (λ i. elements_in (extents_of 0 (e i) 0 (f i))) h

pub values_push : (arrays all : List (Vec ℕ Global)) (v : Vec ℕ Global) → all ≡ arrays ++ v ∷ [] → values_in all ≡ values_in arrays ++ v.items ∷ []
values_push arrays all v e = ap values_in e ∙ mapped arrays where
  mapped : (xs : List (Vec ℕ Global)) → values_in (xs ++ v ∷ []) ≡ values_in xs ++ v.items ∷ []
  mapped [] = refl
  mapped (x ∷ xs) = ap (λ l. x.items ∷ l) (mapped xs)

pub wrong_so : (s : Stop) (name : List ℕ) (m : ℕ) (text : List ℕ) → s ≡ stop.Wrong → AnswersLine (Err s) name m text → (vs rest : List ℕ) → ArrayLine name m text vs rest → ⊥
wrong_so s name m text e h = subst (λ x. AnswersLine (Err x) name m text) e h

-- ---- The answer

module _ (text : List ℕ) (program : Program) (params : List Param) (rest : Bor (List ℕ)) (p0 p1 nums : List ℤ) (v0 v1 : List (List ℕ)) (conditions : List Compare) (b : Bool)
    (same : params ≡ program.params) (h : ReadsLines (Ok rest) params text 1 p0 p1 v0 v1) (none : p0 ≡ []) (nothing : v0 ≡ []) (read : nums ≡ p1) (conds : conditions ≡ program.context)
    (test : b ≡ ((length rest.now == 0) && meets conditions nums)) where
  there : OnlyLines [] program.params h.0 h.1 text rest.now
  there = subst (λ q. OnlyLines q program.params h.0 h.1 text rest.now) none (subst (λ ps. OnlyLines p0 ps h.0 h.1 text rest.now) same h.4)

  numbers : p1 ≡ h.0
  numbers = h.2 ∙ ap (λ q. q ++ h.0) none

  values : v1 ≡ h.1
  values = h.3 ∙ ap (λ q. q ++ h.1) nothing

  tested : b ≡ ((length rest.now == 0) && meets program.context h.0)
  tested = test ∙ (λ i. (length rest.now == 0) && meets (conds i) ((read ∙ numbers) i))

  pub not_whole : (past : ℕ) → b ≡ false → past ≡ length params + 1 → IsWrongLine text program past
  not_whole past fails e = past_lines text program h.0 h.1 rest.now there past (e ∙ ap (λ ps. length ps + 1) same) (λ q. true≢false (sym (both (length rest.now == 0) (meets program.context h.0) (eq-eqb (length rest.now) 0 (ap length q.0)) q.1) ∙ sym tested ∙ fails)) where
    both : (x y : Bool) → x ≡ true → y ≡ true → (x && y) ≡ true
    both x y e f = (λ i. e i && f i)

  pub is_data : (feed : Feed) → b ≡ true → feed.params.items ≡ p1 → values_in feed.arrays.items ≡ v1 → AnswersFeed (Ok feed) text program
  is_data feed yes_so e f =
      let parts = and_parts (length rest.now == 0) (meets program.context h.0) (sym tested ∙ yes_so) in
      let w = whole_data text program h.0 h.1 rest.now there (nothing_left rest.now (eqb-true (length rest.now) 0 parts.0)) parts.1 in
      (subst (λ x. FeedReads text program x (values_in feed.arrays.items)) (sym (e ∙ numbers)) (subst (λ x. FeedReads text program h.0 x) (sym (f ∙ values)) w.0), λ q others r. (e ∙ numbers ∙ (w.1 q others r).0, f ∙ values ∙ (w.1 q others r).1))

pub refused_so : (text : List ℕ) (program : Program) (f : FeedFault) (params : List Param) (p0 p1 : List ℤ) (v0 v1 : List (List ℕ)) → params ≡ program.params → p0 ≡ [] → v0 ≡ [] → ReadsLines (Err f) params text 1 p0 p1 v0 v1 → AnswersFeed (Err f) text program
refused_so text program (Line n) params p0 p1 v0 v1 e none nothing h =
    wrong_line text program n p1 v1 (h.0, h.1, subst (λ ps. h.0 < length ps) e h.2, subst (λ q. RightUpTo q program.params text h.0) none (subst (λ ps. RightUpTo p0 ps text h.0) e h.3))
refused_so text program Memory params p0 p1 v0 v1 e none nothing h = tt
