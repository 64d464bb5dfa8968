-- The lines of a document that reads, and the places of its schedule.
use Rattle.std.proofs.Common.{◌≡◌, ℕ, zero, suc, ◌+◌, ◌<◌, ◌≤◌, true, false, List, [], ◌∷◌, ◌++◌, length, codes, Some, Result, Ok, Err, refl, sym, ap, ◌∙◌, subst, arith}
use Rattle.std.specs.Prelude.{nat_lt}
use Rattle.std.specs.List.{AllByRecursion}
use Rattle.std.proofs.lemmas.Bool.Decides.{nat_tests}
use Rattle.toml.specs.Data.{Data, Items, Members, get_member, as_str}
use Rattle.piv_model.specs.declared.places.Where.{Where}
use Rattle.piv_model.specs.declared.places.Where.TheVariants as place
use Rattle.line_words.specs.Words.{words}
use Rattle.line_words.proofs.Steps.{bound, some_same}
use Rattle.script_line.specs.declared.line.Line.{Line}
use Rattle.script_line.specs.declared.line.Line.TheVariants as line
use Rattle.script_line.specs.LineReading.{line_of_words}
use Rattle.script_line.specs.Lines.{AreWordsOf}
use Rattle.script_line.specs.Playable.{IsPlayable, ArePlayable}
use Rattle.script_line.specs.Scripts.{ScriptData}
use Rattle.script_line.proofs.LineLaws.{line-found}
use Rattle.scene_table.specs.Readings.{each_after, from_zero, items_or_none}
use Rattle.scene_table.specs.Values.{such_that}
use Rattle.scene_cards.specs.Cards.{CardData, card_names, reader_names}
use Rattle.scene_cards.proofs.ReadSound.{so, or_false, each-holds}
use Rattle.scene_cards.proofs.PartsSound.{such_that-holds}
use Rattle.scene_cards.proofs.CardSound.{good_items}
use Rattle.scene_cards.proofs.NamesSound.{all-more}
use Rattle.scene_cards.proofs.Within.{small}
use Rattle.piv_scene.specs.declared.sizes.Size.{Size}
use Rattle.piv_scene.specs.declared.sizes.Size.TheVariants as size
use Rattle.piv_scene.specs.Documents.{◌>>=◌, or_at, with_lines, script_at, scripts_after, schedule_at}
use Rattle.piv_scene.specs.SceneLimits.{put_size, crypt_size, apdu_size, aid_size, any_above, all_lines}
use Rattle.piv_scene.specs.SceneValues.{IsScriptOf}
use Rattle.piv_scene.specs.Scripts.{RawScript, names_known, is_known, scene_line, schedule_place}
use Rattle.piv_scene.proofs.SizeLaws.{any-append}

-- a step that gave something, and the one after it
pub record Got {A B : Type 0} (r : Result A Where) (f : A → Result B Where) (y : B) : Type 0 where
  pub value : A
  pub first : r ≡ Ok value
  pub next : f value ≡ Ok y

pub got : {A B : Type 0} (r : Result A Where) (f : A → Result B Where) (y : B) → (r >>= f) ≡ Ok y → Got r f y
got (Ok a) f y h = record { value = a; first = refl; next = h }
got (Err w) f y h = cc

pub same_ok : {A E : Type 0} (r : Result A E) (x y : A) → r ≡ Ok x → r ≡ Ok y → x ≡ y
same_ok r x y h k = cc

-- ---- lines that read

-- a line that words spell, with names that there are
pub record IsRead (cards readers : List (List ℕ)) (l : Line) : Type 0 where
  pub ws : List (List ℕ)
  pub words : AreWordsOf l ws
  pub known : names_known cards readers l ≡ true

line-reads : (cards : List CardData) (before : List Line) (d : Data) (l : Line) → scene_line cards before d ≡ Some l
    → IsRead (card_names cards) (reader_names cards) l
line-reads cards before d l h =
    let text = bound (as_str d) _ l h in
    let read = bound (line_of_words (words text.value)) (such_that (is_known cards)) l text.next in
    let known = so (is_known cards read.value) read.value l read.next in
    subst (λ (x : Line). IsRead (card_names cards) (reader_names cards) x) known.1
    (record { ws = words text.value; words = line-found (words text.value) read.value read.first; known = known.0 })

lines-read : (cards : List CardData) (items : Items) (lines : List Line) → each_after (scene_line cards) [] items ≡ Ok lines
    → AllByRecursion (IsRead (card_names cards) (reader_names cards)) lines
lines-read cards items lines h =
    let P : Line → Type 0 = λ l. IsRead (card_names cards) (reader_names cards) l in
    each-holds (λ (b : List Line). AllByRecursion P b) (scene_line cards)
    (λ b d l all is. all-more P b l all (line-reads cards b d l is)) [] items lines tt h

-- ---- scripts that read

abbrev pub AreRead : List CardData → List ScriptData → Type 0
AreRead cards scripts = AllByRecursion (λ s. AllByRecursion (IsRead (card_names cards) (reader_names cards)) s.lines) scripts

lined : (name : List ℕ) (r : Result (List Line) Where) (s : ScriptData) → with_lines name r ≡ Ok s → r ≡ Ok s.lines
lined name (Ok lines) s h = ap (λ (x : ScriptData). Ok x.lines) (same_ok (with_lines name (Ok lines)) (record { name = name; lines = lines }) s refl h)
lined name (Err w) s h = cc

script-read : (cards : List CardData) (n : ℕ) (raw : RawScript) (s : ScriptData) → script_at cards n raw ≡ Ok s
    → AllByRecursion (IsRead (card_names cards) (reader_names cards)) s.lines
script-read cards n raw s h =
    lines-read cards raw.lines s.lines (good_items (λ m. place.Line n (m + 1)) (each_after (scene_line cards) [] raw.lines) s.lines (lined raw.name _ s h))

pub scripts-read : (cards : List CardData) (before : List ScriptData) (raws : List RawScript) (scripts : List ScriptData)
    → AreRead cards before → scripts_after cards before raws ≡ Ok scripts → AreRead cards scripts
unfolding scripts_after
scripts-read cards before [] scripts all h = subst (λ (s : List ScriptData). AreRead cards s) (same_ok (Ok before) before scripts refl h) all
scripts-read cards before (raw ∷ raws) scripts all h =
    let s = got (script_at cards (length before) raw) _ scripts h in
    scripts-read cards (before ++ s.value ∷ []) raws scripts
    (all-more (λ (s : ScriptData). AllByRecursion (IsRead (card_names cards) (reader_names cards)) s.lines) before s.value all (script-read cards (length before) raw s.value s.first)) s.next

-- ---- the schedule

below : (k n : ℕ) → nat_lt k n ≡ true → k < n
below k n h = grind (arith, nat_tests)

pub places-below : (scripts : ℕ) (doc : Members) (places : List ℕ) → schedule_at scripts doc ≡ Ok places → AllByRecursion (λ k. k < scripts) places
places-below scripts doc places h =
    let ds = got (or_at place.Schedule (items_or_none (get_member (codes "schedule") doc))) _ places h in
    each-holds (λ (b : List ℕ). AllByRecursion (λ k. k < scripts) b) (schedule_place scripts)
    (λ b d k all is. all-more (λ k. k < scripts) b k all (below k scripts (such_that-holds (from_zero d) (λ k. nat_lt k scripts) k is)))
    [] ds.value places tt (good_items (λ n. place.Schedule) (each_after (schedule_place scripts) [] ds.value) places ds.next)

-- ---- lines that pass no limit

-- what is asked of lines that are played
pub record AreShort (lines : List Line) : Type 0 where
  pub put : any_above 16512 size.Put lines ≡ false
  pub crypt : any_above 255 size.Crypt lines ≡ false
  pub apdu : any_above 512 size.Apdu lines ≡ false
  pub aid : any_above 16 size.Aid lines ≡ false

record IsShort (l : Line) : Type 0 where
  pub put : put_size l ≤ 16512
  pub crypt : crypt_size l ≤ 255
  pub apdu : apdu_size l ≤ 512
  pub aid : aid_size l ≤ 16

short-first : (l : Line) (lines : List Line) → AreShort (l ∷ lines) → IsShort l
short-first l lines s = record {
  put = small 16512 (put_size l) (or_false (nat_lt 16512 (put_size l)) (any_above 16512 size.Put lines) s.put).0;
  crypt = small 255 (crypt_size l) (or_false (nat_lt 255 (crypt_size l)) (any_above 255 size.Crypt lines) s.crypt).0;
  apdu = small 512 (apdu_size l) (or_false (nat_lt 512 (apdu_size l)) (any_above 512 size.Apdu lines) s.apdu).0;
  aid = small 16 (aid_size l) (or_false (nat_lt 16 (aid_size l)) (any_above 16 size.Aid lines) s.aid).0;
}

short-rest : (l : Line) (lines : List Line) → AreShort (l ∷ lines) → AreShort lines
short-rest l lines s = record {
  put = (or_false (nat_lt 16512 (put_size l)) (any_above 16512 size.Put lines) s.put).1;
  crypt = (or_false (nat_lt 255 (crypt_size l)) (any_above 255 size.Crypt lines) s.crypt).1;
  apdu = (or_false (nat_lt 512 (apdu_size l)) (any_above 512 size.Apdu lines) s.apdu).1;
  aid = (or_false (nat_lt 16 (aid_size l)) (any_above 16 size.Aid lines) s.aid).1;
}

above-both : (most : ℕ) (kind : Size) (xs ys : List Line) → any_above most kind (xs ++ ys) ≡ false
    → (any_above most kind xs ≡ false) × (any_above most kind ys ≡ false)
above-both most kind xs ys h = or_false (any_above most kind xs) (any_above most kind ys) (sym (any-append most kind xs ys) ∙ h)

short-before : (xs ys : List Line) → AreShort (xs ++ ys) → AreShort xs
short-before xs ys s = record {
  put = (above-both 16512 size.Put xs ys s.put).0;
  crypt = (above-both 255 size.Crypt xs ys s.crypt).0;
  apdu = (above-both 512 size.Apdu xs ys s.apdu).0;
  aid = (above-both 16 size.Aid xs ys s.aid).0;
}

short-behind : (xs ys : List Line) → AreShort (xs ++ ys) → AreShort ys
short-behind xs ys s = record {
  put = (above-both 16512 size.Put xs ys s.put).1;
  crypt = (above-both 255 size.Crypt xs ys s.crypt).1;
  apdu = (above-both 512 size.Apdu xs ys s.apdu).1;
  aid = (above-both 16 size.Aid xs ys s.aid).1;
}

playable : (cards readers : List (List ℕ)) (l : Line) → IsShort l → IsRead cards readers l → IsPlayable l
playable cards readers (line.Connect h reader shared) s r = tt
playable cards readers (line.Disconnect h) s r = tt
playable cards readers (line.Select h aid) s r = s.aid
playable cards readers (line.Login h auth) s r = tt
playable cards readers (line.Logout h) s r = tt
playable cards readers (line.Get h oid) s r = tt
playable cards readers (line.PutHex h oid value) s r = s.put
playable cards readers (line.PutFill h oid size fill) s r = s.put
playable cards readers (line.Crypt h algorithm key input) s r = s.crypt
playable cards readers (line.Admin h algorithm key) s r = r.words.6
playable cards readers (line.Apdu h bytes) s r = s.apdu
playable cards readers line.Version s r = tt
playable cards readers line.Generate s r = tt
playable cards readers line.Secure s r = tt
playable cards readers (line.Reset reader) s r = tt
playable cards readers (line.Cut card) s r = tt
playable cards readers (line.Power card) s r = tt

all-playable : (cards readers : List (List ℕ)) (lines : List Line) → AreShort lines → AllByRecursion (IsRead cards readers) lines → ArePlayable lines
all-playable cards readers [] s all k line at = cc
all-playable cards readers (l ∷ lines) s all zero line at =
    subst IsPlayable (some_same l line at) (playable cards readers l (short-first l lines s) all.0)
all-playable cards readers (l ∷ lines) s all (suc k) line at = all-playable cards readers lines (short-rest l lines s) all.1 k line at

all-known : (cards readers : List (List ℕ)) (lines : List Line) → AllByRecursion (IsRead cards readers) lines
    → AllByRecursion (λ line. names_known cards readers line ≡ true) lines
all-known cards readers [] all = tt
all-known cards readers (l ∷ lines) all = (all.0.known, all-known cards readers lines all.1)

-- the scripts of a scene whose cards and readers have these names
pub scripts-sound : (cards : List CardData) (scripts : List ScriptData) → AreShort (all_lines scripts) → AreRead cards scripts
    → AllByRecursion (IsScriptOf (card_names cards) (reader_names cards)) scripts
scripts-sound cards [] s all = tt
scripts-sound cards (x ∷ scripts) s all = (
  record {
    playable = all-playable (card_names cards) (reader_names cards) x.lines (short-before x.lines (all_lines scripts) s) all.0;
    known = all-known (card_names cards) (reader_names cards) x.lines all.0;
  },
  scripts-sound cards scripts (short-behind x.lines (all_lines scripts) s) all.1,
)
