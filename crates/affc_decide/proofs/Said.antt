-- Words say at most one list of numbers, and at most one kind of line.
use Rattle.std.proofs.Common.{◌≡◌, ◌≢◌, ◌⊎◌, inl, inr, ◌∙◌, ℕ, zero, suc, ◌+◌, ◌*◌, ◌<◌, ◌≤◌, ◌≤ℤ◌, List, [], ◌∷◌, ◌++◌, length, take, drop, get_or, length-append, ◌-◌, ◌==◌, true, ℤ, pos, refl, sym, ap, ap₂, subst, arith, codes, Bor, Result, Ok, Err, IfErr, IfOk, OnOk, Option, Some, unwrap_or}
use Rattle.std.proofs.Math.Seq.{take-length}
use Rattle.std.proofs.lemmas.Bool.{eqb-true}
use Rattle.affc_system.specs.Boxes.{IsBox}
use Rattle.affc_decide.specs.Words.{Says, SaysNone, texts_of}
use Rattle.affc_decide.specs.Blocks.{Say, ends_of, Said, IsSaid, Blank, System, Ranges, Limit, Row, ExpectEmpty, ExpectAny, ExpectStopped, ExpectPoint, IsTaken, TakesNone}
use Rattle.affc_decide.specs.declared.block.Block.{Block}
use Rattle.affc_decide.specs.declared.block.Line.{Line}
use Rattle.affc_rows.specs.Forms.{Affine}

pub if_err : {T E : Type 0} {P : E → Type 0} (r : Result T E) → ((e : E) → P e) → IfErr r P
if_err (Ok x) every = tt
if_err (Err e) every = every e

pub if_err_then : {T E : Type 0} {P Q : E → Type 0} (r : Result T E) → ((e : E) → P e → Q e) → IfErr r P → IfErr r Q
if_err_then (Ok x) then p = tt
if_err_then (Err e) then p = then e p

pub if_ok_then : {T E : Type 0} {P Q : T → Type 0} (r : Result T E) → ((x : T) → P x → Q x) → IfOk r P → IfOk r Q
if_ok_then (Ok x) then p = then x p
if_ok_then (Err e) then p = tt

pub on_ok_then : {T E : Type 0} {P Q : Type 0} (r : Result T E) → (P → Q) → OnOk r P → OnOk r Q
on_ok_then (Ok x) then p = then p
on_ok_then (Err e) then p = tt

pub some_same : {X : Type 0} (x y : X) → Some x ≡ Some y → x ≡ y
some_same {X} x y same = ap (λ (o : Option X). unwrap_or o x) same

pub said_once : (word : List ℕ) (n m : ℤ) → Says word n → Says word m → n ≡ m
said_once word n m p q = p.2 ∙ sym q.2

pub say_once : (words : List (List ℕ)) (ns ms : List ℤ) → Say words ns → Say words ms → ns ≡ ms
say_once [] [] [] p q = refl
say_once [] [] (m ∷ ms) p q = absurd q
say_once [] (n ∷ ns) ms p q = absurd p
say_once (w ∷ ws) [] ms p q = absurd p
say_once (w ∷ ws) (n ∷ ns) [] p q = absurd q
say_once (w ∷ ws) (n ∷ ns) (m ∷ ms) p q = ap₂ (λ (x : ℤ) (xs : List ℤ). x ∷ xs) (said_once w n m p.0 q.0) (say_once ws ns ms p.1 q.1)

last_same : (xs ys : List ℤ) (x y : ℤ) → xs ++ x ∷ [] ≡ ys ++ y ∷ [] → (xs ≡ ys) × (x ≡ y)
last_same [] [] x y same = (refl, cc)
last_same [] (b ∷ ys) x y same = let more = length-append ys (y ∷ []) in let long = ap length same in absurd (omega (arith, more, long))
last_same (a ∷ xs) [] x y same = let more = length-append xs (x ∷ []) in let long = ap length same in absurd (omega (arith, more, long))
last_same (a ∷ xs) (b ∷ ys) x y same =
    let first : a ≡ b = cc in
    let rest : xs ++ x ∷ [] ≡ ys ++ y ∷ [] = cc in
    let more = last_same xs ys x y rest in
    (ap₂ (λ (z : ℤ) (zs : List ℤ). z ∷ zs) first more.0, more.1)

-- words say at most one row
pub row_once : (words : List (List ℕ)) (f h : Affine) → Say words (f.coefs ++ f.constant ∷ []) → Say words (h.coefs ++ h.constant ∷ []) → f ≡ h
row_once words f h p q =
    let same = last_same f.coefs h.coefs f.constant h.constant (say_once words (f.coefs ++ f.constant ∷ []) (h.coefs ++ h.constant ∷ []) p q) in
    let make : List ℤ → ℤ → Affine = λ (cs : List ℤ) (k : ℤ). record { coefs = cs; constant = k } in
    ap₂ make same.0 same.1

-- words that say no number say no row
pub no_row : (words : List (List ℕ)) (f : Affine) → Say words [] → Say words (f.coefs ++ f.constant ∷ []) → ⊥
no_row words f none say =
    let same = ap length (say_once words [] (f.coefs ++ f.constant ∷ []) none say) in
    let more = length-append f.coefs (f.constant ∷ []) in
    omega (arith, same, more)

pub nothing : (xs : List ℤ) → (0 < length xs → ⊥) → xs ≡ []
nothing [] none = refl
nothing (x ∷ xs) none = absurd (none (omega arith))

pub all_said : (ws : List (Bor (List ℕ))) (i : ℕ) (ns : List ℤ) → length ws ≡ i → Say (texts_of (take i ws)) ns → Say (texts_of ws) ns
all_said ws i ns all say = subst (λ (vs : List (Bor (List ℕ))). Say (texts_of vs) ns) (ap (λ (k : ℕ). take k ws) (sym all) ∙ take-length ws) say

-- one word more
pub say_more : (ws : List (Bor (List ℕ))) (i : ℕ) (d : Bor (List ℕ)) (ns : List ℤ) (n : ℤ) → i < length ws → Say (texts_of (take i ws)) ns → Says (get_or ws i d).now n → Say (texts_of (take (suc i) ws)) (ns ++ n ∷ [])
say_more [] i d ns n within said says = absurd (omega (arith, within))
say_more (w ∷ ws) zero d [] n within said says = (says, tt)
say_more (w ∷ ws) zero d (m ∷ ms) n within said says = absurd said
say_more (w ∷ ws) (suc i) d [] n within said says = absurd said
say_more (w ∷ ws) (suc i) d (m ∷ ms) n within said says = (said.0, say_more ws i d ms n (omega (arith, within)) said.1 says)

-- a word that says no number
pub say_none : (ws : List (Bor (List ℕ))) (i : ℕ) (d : Bor (List ℕ)) → i < length ws → SaysNone (get_or ws i d).now → (said : List ℤ) → Say (texts_of ws) said → ⊥
say_none [] i d within none said say = omega (arith, within)
say_none (w ∷ ws) i d within none [] say = say
say_none (w ∷ ws) zero d within none (n ∷ ns) say = none n say.0
say_none (w ∷ ws) (suc i) d within none (n ∷ ns) say = say_none ws i d (omega (arith, within)) none ns say.1

pub ends_of-push : (rs : List (ℤ × ℤ)) (r : ℤ × ℤ) → ends_of (rs ++ r ∷ []) ≡ ends_of rs ++ r.0 ∷ r.1 ∷ []
ends_of-push [] r = refl
ends_of-push (s ∷ rs) r = ap (λ (xs : List ℤ). s.0 ∷ s.1 ∷ xs) (ends_of-push rs r)

-- ---- Ends by their places

pub twice : ℕ → ℕ
twice zero = zero
twice (suc i) = suc (suc (twice i))

pub twice_is : (i : ℕ) → twice i ≡ 2 * i
unfolding twice
twice_is zero = refl
twice_is (suc i) = let more = twice_is i in omega (arith, more)

pub length_ends : (rs : List (ℤ × ℤ)) → length (ends_of rs) ≡ 2 * length rs
length_ends [] = refl
length_ends (r ∷ rs) = let more = length_ends rs in omega (arith, more)

two_more : (xs : List ℤ) (n : ℕ) → suc n < length xs → take (suc (suc n)) xs ≡ take n xs ++ get_or xs n (pos 0) ∷ get_or xs (suc n) (pos 0) ∷ []
two_more [] n within = absurd (omega (arith, within))
two_more (x ∷ []) n within = absurd (omega (arith, within))
two_more (x ∷ y ∷ xs) zero within = refl
two_more (x ∷ y ∷ xs) (suc n) within = ap (λ (zs : List ℤ). x ∷ zs) (two_more (y ∷ xs) n (omega (arith, within)))

-- the ends of one range more
pub ends_more : (rs : List (ℤ × ℤ)) (xs : List ℤ) (i : ℕ) → ends_of rs ≡ take (2 * i) xs → 2 * i + 1 < length xs → ends_of (rs ++ (get_or xs (2 * i) (pos 0), get_or xs (2 * i + 1) (pos 0)) ∷ []) ≡ take (2 * (i + 1)) xs
ends_more rs xs i so_far within =
    let odd : suc (2 * i) ≡ 2 * i + 1 = omega arith in
    let next : suc (suc (2 * i)) ≡ 2 * (i + 1) = omega arith in
    let low = get_or xs (2 * i) (pos 0) in
    ends_of-push rs (low, get_or xs (2 * i + 1) (pos 0))
    ∙ ap (λ (zs : List ℤ). zs ++ low ∷ get_or xs (2 * i + 1) (pos 0) ∷ []) so_far
    ∙ sym (subst (λ (k : ℕ). take (suc (suc (2 * i))) xs ≡ take (2 * i) xs ++ low ∷ get_or xs k (pos 0) ∷ []) odd (two_more xs (2 * i) (omega (arith, within))))
    ∙ ap (λ (k : ℕ). take k xs) next

-- the ends of the range at a place
end_at : (rs : List (ℤ × ℤ)) (i : ℕ) (d : ℤ × ℤ) → i < length rs → (get_or (ends_of rs) (twice i) (pos 0) ≡ (get_or rs i d).0) × (get_or (ends_of rs) (suc (twice i)) (pos 0) ≡ (get_or rs i d).1)
unfolding twice
end_at [] i d within = absurd (omega (arith, within))
end_at (r ∷ rs) zero d within = (refl, refl)
end_at (r ∷ rs) (suc i) d within = end_at rs i d (omega (arith, within))

-- ranges with these ends are a box only where each low end is at most its high end
pub ordered_at : (rs : List (ℤ × ℤ)) (xs : List ℤ) (i : ℕ) → ends_of rs ≡ xs → IsBox rs → i < length rs → get_or xs (2 * i) (pos 0) ≤ℤ get_or xs (2 * i + 1) (pos 0)
ordered_at rs xs i same box within =
    let ends = end_at rs i (pos 0, pos 0) within in
    let odd : suc (twice i) ≡ 2 * i + 1 = let is = twice_is i in omega (arith, is) in
    let at : (k : ℕ) → get_or (ends_of rs) k (pos 0) ≡ get_or xs k (pos 0) = λ k. ap (λ (zs : List ℤ). get_or zs k (pos 0)) same in
    let low : (get_or rs i (pos 0, pos 0)).0 ≡ get_or xs (2 * i) (pos 0) = sym ends.0 ∙ ap (λ (k : ℕ). get_or (ends_of rs) k (pos 0)) (twice_is i) ∙ at (2 * i) in
    let high : (get_or rs i (pos 0, pos 0)).1 ≡ get_or xs (2 * i + 1) (pos 0) = sym ends.1 ∙ ap (λ (k : ℕ). get_or (ends_of rs) k (pos 0)) odd ∙ at (2 * i + 1) in
    subst (λ (x : ℤ). x ≤ℤ get_or xs (2 * i + 1) (pos 0)) low (subst (λ (x : ℤ). (get_or rs i (pos 0, pos 0)).0 ≤ℤ x) high (box i (pos 0, pos 0) within))

-- ---- Lines by their first word

abbrev behind : List (List ℕ) → List (List ℕ)
behind [] = []
behind (w ∷ ws) = ws

-- the first byte of the first word
abbrev letter : List (List ℕ) → ℕ
letter [] = 0
letter ([] ∷ more) = 0
letter ((b ∷ bs) ∷ more) = b

no_numbers : (w : List ℕ) (more : List (List ℕ)) (cs : List ℤ) (c : ℤ) → ((n : ℤ) → Says w n → ⊥) → Say (w ∷ more) (cs ++ c ∷ []) → ⊥
no_numbers w more [] c none say = none c say.0
no_numbers w more (d ∷ cs) c none say = none d say.0

not_system : (n : ℤ) → Says (codes "system") n → ⊥
not_system n s = omega (arith, s.0.1.0)

not_ranges : (n : ℤ) → Says (codes "ranges") n → ⊥
not_ranges n s = omega (arith, s.0.1.0)

not_limit : (n : ℤ) → Says (codes "limit") n → ⊥
not_limit n s = omega (arith, s.0.1.0)

pub system_only : (said : Said) (more : List (List ℕ)) → IsSaid said (codes "system" ∷ more) → (columns : ℕ) × (rows : ℕ) × (said ≡ System columns rows)
system_only Blank more s = absurd (omega (arith, ap length s))
system_only (System columns rows) more s = (columns, rows, refl)
system_only (Ranges ranges) more s = absurd (omega (arith, ap letter s.1))
system_only (Limit limit) more s = absurd (omega (arith, ap letter s.1))
system_only (Row row) more s = absurd (no_numbers (codes "system") more row.coefs row.constant not_system s)
system_only ExpectEmpty more s = absurd (omega (arith, ap letter s))
system_only ExpectStopped more s = absurd (omega (arith, ap letter s))
system_only ExpectAny more s = absurd (omega (arith, ap letter s))
system_only (ExpectPoint point) more s = absurd (omega (arith, ap letter s.1))

pub ranges_only : (said : Said) (more : List (List ℕ)) → IsSaid said (codes "ranges" ∷ more) → (ranges : List (ℤ × ℤ)) × (said ≡ Ranges ranges)
ranges_only Blank more s = absurd (omega (arith, ap length s))
ranges_only (System columns rows) more s = absurd (omega (arith, ap letter s.3))
ranges_only (Ranges ranges) more s = (ranges, refl)
ranges_only (Limit limit) more s = absurd (omega (arith, ap letter s.1))
ranges_only (Row row) more s = absurd (no_numbers (codes "ranges") more row.coefs row.constant not_ranges s)
ranges_only ExpectEmpty more s = absurd (omega (arith, ap letter s))
ranges_only ExpectStopped more s = absurd (omega (arith, ap letter s))
ranges_only ExpectAny more s = absurd (omega (arith, ap letter s))
ranges_only (ExpectPoint point) more s = absurd (omega (arith, ap letter s.1))

pub limit_only : (said : Said) (more : List (List ℕ)) → IsSaid said (codes "limit" ∷ more) → (limit : ℕ) × (said ≡ Limit limit)
limit_only Blank more s = absurd (omega (arith, ap length s))
limit_only (System columns rows) more s = absurd (omega (arith, ap letter s.3))
limit_only (Ranges ranges) more s = absurd (omega (arith, ap letter s.1))
limit_only (Limit limit) more s = (limit, refl)
limit_only (Row row) more s = absurd (no_numbers (codes "limit") more row.coefs row.constant not_limit s)
limit_only ExpectEmpty more s = absurd (omega (arith, ap letter s))
limit_only ExpectStopped more s = absurd (omega (arith, ap letter s))
limit_only ExpectAny more s = absurd (omega (arith, ap letter s))
limit_only (ExpectPoint point) more s = absurd (omega (arith, ap letter s.1))

abbrev head_word : List (List ℕ) → List ℕ
head_word [] = []
head_word (w ∷ ws) = w

-- a first word that begins no other line begins a row
pub row_only : (said : Said) (w : List ℕ) (more : List (List ℕ)) → w ≢ codes "system" → w ≢ codes "ranges" → w ≢ codes "limit" → w ≢ codes "expect" → IsSaid said (w ∷ more) → (row : Affine) × (said ≡ Row row)
row_only Blank w more no_system no_ranges no_limit no_expect s = absurd (omega (arith, ap length s))
row_only (System columns rows) w more no_system no_ranges no_limit no_expect s = absurd (no_system (ap head_word s.3))
row_only (Ranges ranges) w more no_system no_ranges no_limit no_expect s = absurd (no_ranges (ap head_word s.1))
row_only (Limit limit) w more no_system no_ranges no_limit no_expect s = absurd (no_limit (ap head_word s.1))
row_only (Row row) w more no_system no_ranges no_limit no_expect s = (row, refl)
row_only ExpectEmpty w more no_system no_ranges no_limit no_expect s = absurd (no_expect (ap head_word s))
row_only ExpectStopped w more no_system no_ranges no_limit no_expect s = absurd (no_expect (ap head_word s))
row_only ExpectAny w more no_system no_ranges no_limit no_expect s = absurd (no_expect (ap head_word s))
row_only (ExpectPoint point) w more no_system no_ranges no_limit no_expect s = absurd (no_expect (ap head_word s.1))

-- ---- What no line of a kind can be

pub limit_none : (word : List ℕ) (before : Option Block) → ((l : ℕ) (added : Line) (after : Option Block) → Says word (pos l) → IsTaken (Limit l) before added after → ⊥)
    → TakesNone (codes "limit" ∷ word ∷ []) before
limit_none word before none added after takes =
    let k = limit_only takes.0 (word ∷ []) takes.1 in
    let s = subst (λ (said : Said). IsSaid said (codes "limit" ∷ word ∷ [])) k.1 takes.1 in
    none k.0 added after (subst (λ (w : List ℕ). Says w (pos k.0)) (sym (ap (λ (ws : List (List ℕ)). get_or ws 1 []) s.1)) s.2)
    (subst (λ (said : Said). IsTaken said before added after) k.1 takes.2)

pub ranges_none : (more : List (List ℕ)) (before : Option Block) → ((ranges : List (ℤ × ℤ)) (added : Line) (after : Option Block) → Say more (ends_of ranges) → IsTaken (Ranges ranges) before added after → ⊥)
    → TakesNone (codes "ranges" ∷ more) before
ranges_none more before none added after takes =
    let k = ranges_only takes.0 more takes.1 in
    let s = subst (λ (said : Said). IsSaid said (codes "ranges" ∷ more)) k.1 takes.1 in
    none k.0 added after (subst (λ (ws : List (List ℕ)). Say ws (ends_of k.0)) (sym (ap (λ (ws : List (List ℕ)). behind ws) s.1)) s.2)
    (subst (λ (said : Said). IsTaken said before added after) k.1 takes.2)

pub system_none : (name c r : List ℕ) (before : Option Block) → ((columns rows : ℕ) → Says c (pos columns) → Says r (pos rows) → columns ≤ 128 → rows ≤ 1024 → ⊥)
    → TakesNone (codes "system" ∷ name ∷ codes "columns" ∷ c ∷ codes "rows" ∷ r ∷ []) before
system_none name c r before none added after takes =
    let words = codes "system" ∷ name ∷ codes "columns" ∷ c ∷ codes "rows" ∷ r ∷ [] in
    let k = system_only takes.0 (name ∷ codes "columns" ∷ c ∷ codes "rows" ∷ r ∷ []) takes.1 in
    let s = subst (λ (said : Said). IsSaid said words) k.2 takes.1 in
    let t = subst (λ (said : Said). IsTaken said before added after) k.2 takes.2 in
    none k.0 k.1 (subst (λ (w : List ℕ). Says w (pos k.0)) (sym (ap (λ (ws : List (List ℕ)). get_or ws 3 []) s.3)) s.4)
    (subst (λ (w : List ℕ). Says w (pos k.1)) (sym (ap (λ (ws : List (List ℕ)). get_or ws 5 []) s.3)) s.5) t.1 t.2

pub row_none : (w : List ℕ) (more : List (List ℕ)) (before : Option Block) → w ≢ codes "system" → w ≢ codes "ranges" → w ≢ codes "limit" → w ≢ codes "expect"
    → ((row : Affine) (added : Line) (after : Option Block) → Say (w ∷ more) (row.coefs ++ row.constant ∷ []) → IsTaken (Row row) before added after → ⊥)
    → TakesNone (w ∷ more) before
row_none w more before no_system no_ranges no_limit no_expect none added after takes =
    let k = row_only takes.0 w more no_system no_ranges no_limit no_expect takes.1 in
    none k.0 added after (subst (λ (said : Said). IsSaid said (w ∷ more)) k.1 takes.1) (subst (λ (said : Said). IsTaken said before added after) k.1 takes.2)

-- ---- Words by their places

-- what a slice pattern reads past the end
abbrev pub no_word : Bor (List ℕ)
no_word = record { ref_ptr = (0, 0); now = [] }

abbrev pub word_at : List (Bor (List ℕ)) → ℕ → List ℕ
word_at ws k = (get_or ws k no_word).now

pub one_word : (ws : List (Bor (List ℕ))) → length ws ≡ 1 → texts_of ws ≡ word_at ws 0 ∷ []
one_word [] long = absurd (omega (arith, long))
one_word (w ∷ []) long = refl
one_word (w ∷ v ∷ ws) long = absurd (omega (arith, long))

pub five_words : (ws : List (Bor (List ℕ))) → length ws ≡ 5
    → texts_of ws ≡ word_at ws 0 ∷ word_at ws 1 ∷ word_at ws 2 ∷ word_at ws 3 ∷ word_at ws 4 ∷ []
five_words (a ∷ b ∷ c ∷ e ∷ f ∷ []) long = refl
five_words [] long = absurd (omega (arith, long))
five_words (a ∷ []) long = absurd (omega (arith, long))
five_words (a ∷ b ∷ []) long = absurd (omega (arith, long))
five_words (a ∷ b ∷ c ∷ []) long = absurd (omega (arith, long))
five_words (a ∷ b ∷ c ∷ e ∷ []) long = absurd (omega (arith, long))
five_words (a ∷ b ∷ c ∷ e ∷ f ∷ g ∷ ws) long = absurd (omega (arith, long))

abbrev pub rest_of : List (Bor (List ℕ)) → List (Bor (List ℕ))
rest_of ws = take (length ws - 1) (drop 1 ws)

pub first_word : (ws : List (Bor (List ℕ))) → 1 ≤ length ws → texts_of ws ≡ word_at ws 0 ∷ texts_of (rest_of ws)
first_word [] long = absurd (omega (arith, long))
first_word (w ∷ ws) long =
    let less : length ws ≡ length (w ∷ ws) - 1 = omega arith in
    ap (λ (vs : List (Bor (List ℕ))). w.now ∷ texts_of vs) (sym (take-length ws) ∙ ap (λ (k : ℕ). take k ws) less)

-- a word with none behind it
pub alone : (ws : List (Bor (List ℕ))) → 1 ≤ length ws → true ≡ (length (rest_of ws) == 0) → length ws ≡ 1
alone [] long empty = absurd (omega (arith, long))
alone (w ∷ ws) long empty =
    let less : length (w ∷ ws) - 1 ≡ length ws = omega arith in
    let none : true ≡ (length ws == 0) = empty ∙ ap (λ (vs : List (Bor (List ℕ))). length vs == 0) (ap (λ (k : ℕ). take k ws) less ∙ take-length ws) in
    let is : length ws ≡ 0 = eqb-true (length ws) 0 (sym none) in
    omega (arith, is)

pub no_words : (ws : List (Bor (List ℕ))) → length ws < 1 → texts_of ws ≡ []
no_words [] short = refl
no_words (w ∷ ws) short = absurd (omega (arith, short))
