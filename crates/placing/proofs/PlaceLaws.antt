-- Placing, whole, from what is decided.
use Prim.Native.Nat.{ℕ, ◌+◌, ◌*◌, ◌≤◌, ◌<◌}
use mathlib.Core.Path.{◌≡◌, refl, sym, ap, ap₂, subst, ◌∙◌}
use mathlib.Core.List.{List, [], ◌∷◌, map}
use mathlib.Core.Bool.{Bool, true, false, cond, ◌&&◌}
use native.Mathlib.Omega.{arith}
use lib.Dec.{eqb, ltb}
use lib.ListN.{length}
use lib.Seq.{sets, length-sets}
use borrow.Author.Tests.{eq-eqb, ne_eqb, lt-ltb, le-ltb, ltb-true, ltb-false, eqb-true, eqb-false}
use Rattle.format.specs.Contents.{Contents, contents_at, contents_of}
use Rattle.format.specs.Writing.{head_for}
use Rattle.format.specs.Answers.{refused, or_else}
use Rattle.format.specs.Header.{has_juniors, WithJuniors, more, junior_records, head_at, version_at, head_of, length_for, largest, room_for, Laid}
use Rattle.format.specs.Words.{word_at}
use Rattle.format.specs.declared.Verdict.{Verdict}
use Rattle.format.specs.declared.Head.{Head}
use Rattle.std.specs.Prelude.{Result, Ok, Err}
use Rattle.format.proofs.AnswerLaws.{NoRefusal, quiet_first, loud_first, both_quiet}
use Rattle.format.proofs.HeadLaws.{juniors_iff, Headed, head_number_lem}
use Rattle.format.proofs.ContentsLaws.{users_held, roles_held, kinds_held, channels_held, sessions_held, nodes_held}
use Rattle.tables.specs.Records.{records_answer}
use Rattle.trees.specs.Shape.{shape_answer}
use Rattle.reading.specs.Reading.{body_answer, reading}
use Rattle.reading.proofs.LongLaws.{StandsFor, stands_room, stands_judged}
use Rattle.reading.proofs.ReadingLaws.{by_body}
use Rattle.rules.specs.Candidates.{candidates_in}
use Rattle.checking.specs.Check.{reading_names, entered, surveyed}
use Rattle.checking.proofs.CheckLaws.{names_refused, names_parts, names_headed, entered_fine, entered_refused}
use Rattle.states.specs.declared.Turn.{Turn}
use Rattle.states.specs.States.{Label, turns_of, packed}
use Rattle.groups.specs.Groups.{sizes_of, turns_in}
use Rattle.groups.specs.declared.Sums.{Sums}
use Rattle.placing.specs.Placing.{labels_in, labels_from, Labelled, turns_for, placeable_by, placeable, judging, no_place, summed, decided, answered, placed_by, placed_in, answer_by, answer_from, placed_answer, measuring, placing, bytes_by, placed_bytes, over_by, over_from, placed_over}
use Rattle.placing.specs.declared.Placed.{Placed}
use Rattle.placing.proofs.DecideLaws.{labels_kept, few_nodes, sums_given, turns_written}

-- the nodes of a file that is laid out begin where what it holds says
nodes_begin : (f : List ℕ) (h : Head) → Laid f h → h.at.nodes ≡ (head_for h.version (contents_at f h)).at.nodes
nodes_begin f h l =
    let masks : junior_records h.version (length (contents_at f h).roles) ≡ junior_records h.version h.count.roles = ap (junior_records h.version) (roles_held f h) in
    omega (arith, l, users_held f h, roles_held f h, masks, kinds_held f h, channels_held f h, sessions_held f h)

pub room_least : (f : List ℕ) → 6874 ≤ room_for f
room_least f = go (ltb 1 (length f) && has_juniors (word_at f 0))
  where
    go : (b : Bool) → 6874 ≤ cond b 6908 6874
    go true = omega arith
    go false = omega arith

pub room_most : (f : List ℕ) → room_for f ≤ 6908
room_most f = go (ltb 1 (length f) && has_juniors (word_at f 0))
  where
    go : (b : Bool) → cond b 6908 6874 ≤ 6908
    go true = omega arith
    go false = omega arith

-- by the first word, where there is one
pub room_by_word : (f : List ℕ) → ((2 ≤ length f) × WithJuniors (word_at f 0) → room_for f ≡ 6908) × (((2 ≤ length f) × WithJuniors (word_at f 0) → ⊥) → room_for f ≡ 6874)
room_by_word f = (
  λ (l, e). rw (lt-ltb 1 (length f) l, (juniors_iff (word_at f 0)).1 e),
  λ other. go (ltb 1 (length f)) (has_juniors (word_at f 0)) refl refl other,
)
  where
    go : (a b : Bool) → ltb 1 (length f) ≡ a → has_juniors (word_at f 0) ≡ b → ((2 ≤ length f) × WithJuniors (word_at f 0) → ⊥) → ◌≡◌ {A = ℕ} (cond (a && b) 6908 6874) 6874
    go true true h e other = absurd (other (ltb-true 1 (length f) h, (juniors_iff (word_at f 0)).0 e))
    go true false h e other = refl
    go false b h e other = refl

-- the output that a file's version wants has room for every file of that version with its tables
pub room_enough : (f : List ℕ) (n : ℕ) → Headed f → n ≤ 1024 → length_for (head_at f).at.nodes n ≤ room_for f
room_enough [] n d few = omega (arith, few)
room_enough (x ∷ xs) n d few = go (has_juniors (word_at f 0)) refl
  where
    f : List ℕ
    f = x ∷ xs

    l : Laid f (head_at f)
    l = d.laid

    go : (b : Bool) → has_juniors (word_at f 0) ≡ b → length_for (head_at f).at.nodes n ≤ room_for f
    go true e =
        let long : ltb 1 (length f) ≡ true = lt-ltb 1 (length f) (omega (arith, l)) in
        let room : room_for f ≡ 6908 = rw (long, e) in
        omega (arith, room, few, l)
    go false e =
        let none : junior_records (word_at f 0) (word_at f 2) ≡ 0 = rw e in
        let first : more (word_at f 0) ≡ 0 = rw e in
        omega (arith, room_least f, none, first, few, l)

-- an answer, and the output, by a verdict
module _ (version : ℕ) (C : Contents) (ts : List Turn) (v : Verdict) where
  pub answer_loud : (NoRefusal v → ⊥) → answer_by version C ts v ≡ no_place v.number v.place
  answer_loud l = rw (ne_eqb v.number 0 l)

  pub answer_quiet : NoRefusal v → answer_by version C ts v ≡ placed_by version C ts
  answer_quiet q = rw (eq-eqb v.number 0 q)

  pub over_loud : (out : List ℕ) → (NoRefusal v → ⊥) → over_by version C ts v out ≡ out
  over_loud out l = rw (ne_eqb v.number 0 l)

  pub over_quiet : (out : List ℕ) → NoRefusal v → over_by version C ts v out ≡ sets out 0 (bytes_by version C ts)
  over_quiet out q = rw (eq-eqb v.number 0 q)

  -- the output is written where the answer refuses nothing
  pub over_answered : (out : List ℕ) → over_by version C ts v out ≡ cond (eqb (answer_by version C ts v).number 0) (sets out 0 (bytes_by version C ts)) out
  over_answered out = go (eqb v.number 0) refl
    where
      go : (b : Bool) → eqb v.number 0 ≡ b → cond b (sets out 0 (bytes_by version C ts)) out ≡ cond (eqb (cond b (placed_by version C ts) (no_place v.number v.place)).number 0) (sets out 0 (bytes_by version C ts)) out
      go true e = refl
      go false e = rw e

-- what was decided, in a file that is laid out: the sums, which have no more nodes than a file may have, or the refusal
module _ (f : List ℕ) (h : Head) (l : Laid f h) (roles : List ℕ) where
  abbrev whole : Result Sums Verdict
  whole = decided (placeable_by (contents_at f h) (labels_from (contents_at f h) roles)) (turns_of (labels_from (contents_at f h) roles))

  pub sums_few : (s : Sums) → whole ≡ Ok s → s.nodes ≤ 1024
  sums_few s e =
      let ls : List Label = labels_from (contents_at f h) roles in
      let (q, w) = sums_given (placeable_by (contents_at f h) ls) (turns_of ls) s e in
      omega (arith, ap (λ (x : Sums). x.nodes) w, few_nodes (contents_at f h) ls q)

  pub sums_answered : (s : Sums) → whole ≡ Ok s → answered h.at.nodes s ≡ answer_from h.version (contents_at f h) roles
  sums_answered s e =
      let C : Contents = contents_at f h in
      let ts : List Turn = turns_of (labels_from C roles) in
      let v : Verdict = placeable_by C (labels_from C roles) in
      let (q, w) = sums_given v ts s e in
      ap (answered h.at.nodes) w ∙ ap (λ (n : ℕ). answered n (summed ts)) (nodes_begin f h l) ∙ sym (answer_quiet h.version C ts v q)

  pub turns_seen : length roles ≡ 1025 → (t t' : List ℕ) → length t ≡ 1025 → t' ≡ sets t 1 (map packed (turns_of (labels_from (contents_at f h) roles)))
      → turns_in t' h.count.nodes ≡ turns_of (labels_from (contents_at f h) roles)
  turns_seen r t t' n w =
      ap (turns_in t') (sym (nodes_held f h))
      ∙ turns_written (contents_at f h).nodes roles t t' (omega (arith, nodes_held f h, l.nodes, r)) (omega (arith, nodes_held f h, l.nodes, n)) w

module _ (f : List ℕ) where
  pub too_small : (room : ℕ) → room < room_for f → placing f room ≡ no_place 17 0
  unfolding placing
  too_small room h = rw (lt-ltb room (room_for f) h)

  pub answers : (room : ℕ) → room_for f ≤ room → placing f room ≡ measuring f
  unfolding placing
  answers room h = rw (le-ltb room (room_for f) h)

  pub measuring_refused : (v : Verdict) → judging f ≡ v → (NoRefusal v → ⊥) → measuring f ≡ no_place v.number v.place
  unfolding measuring
  measuring_refused v e l = ap (placed_answer (version_at f) (contents_of f)) e ∙ rw (ne_eqb v.number 0 l)

  pub placing_refused : (room : ℕ) (v : Verdict) → room_for f ≤ room → judging f ≡ v → (NoRefusal v → ⊥) → placing f room ≡ no_place v.number v.place
  placing_refused room v h e l = answers room h ∙ measuring_refused v e l

  -- where anything is refused the output stays
  pub over_kept : (out : List ℕ) (n p : ℕ) → (n ≡ 0 → ⊥) → placing f (length out) ≡ no_place n p → placed_over f out ≡ out
  unfolding placed_over
  over_kept out n p l e = rw (e, ne_eqb n 0 l)

  -- a file without a head
  pub head_refused : (n : ℕ) → head_of f ≡ Err n → measuring f ≡ no_place n 0
  unfolding judging
  head_refused n e =
      let loud : NoRefusal (refused n 0) → ⊥ = λ z. let no_way : ⊥ = omega (arith, head_number_lem f n e, z) in no_way in
      let names : reading_names f ≡ refused n 0 = names_refused f n e in
      measuring_refused (refused n 0) (ap (λ v. or_else v (placeable (contents_of f))) names ∙ loud_first (refused n 0) (placeable (contents_of f)) loud) loud

  -- a file that 1 to 10 refuse
  pub names_loud : (w : Verdict) → entered f ≡ Err w → (judging f ≡ w) × (NoRefusal w → ⊥)
  unfolding judging
  names_loud w e =
      let (l, same) = entered_refused f w e in (loud_first (reading_names f) (placeable (contents_of f)) l ∙ sym same, λ q. l (subst NoRefusal same q))

  -- where nothing is refused
  placing_placed : (room : ℕ) → room_for f ≤ room → NoRefusal (judging f) → placing f room ≡ placed_in (version_at f) (contents_of f)
  unfolding measuring
  placing_placed room r q = answers room r ∙ answer_quiet (version_at f) (contents_of f) (turns_for (contents_of f)) (judging f) q

  -- a file that 1 to 10 leave clean, by its head
  module _ (h : Head) (e : entered f ≡ Ok h) where
    same : h ≡ head_at f
    same = (entered_fine f h e).1

    names_quiet : NoRefusal (reading_names f)
    names_quiet = ap (λ (v : Verdict). v.number) (entered_fine f h e).2

    pub enough_room : (n : ℕ) → n ≤ 1024 → length_for h.at.nodes n ≤ room_for f
    enough_room n few = subst (λ (k : Head). length_for k.at.nodes n ≤ room_for f) (sym same) (room_enough f n (names_headed f names_quiet) few)

    pub judged : judging f ≡ placeable (contents_at f h)
    unfolding judging
    judged = quiet_first (reading_names f) (placeable (contents_of f)) names_quiet ∙ ap (λ (k : Head). placeable (contents_at f k)) (sym same)

    -- where the table has each node's candidates, what is placed from it is what is placed
    module _ (roles : List ℕ) (l : Labelled (contents_at f h) roles) where
      pub seen : {A : Type 0} (g : ℕ → Contents → List Turn → Verdict → A)
          → g h.version (contents_at f h) (turns_of (labels_from (contents_at f h) roles)) (placeable_by (contents_at f h) (labels_from (contents_at f h) roles)) ≡ g (version_at f) (contents_of f) (turns_for (contents_of f)) (judging f)
      unfolding placeable
      seen g =
          ap (λ ls. g h.version (contents_at f h) (turns_of ls) (placeable_by (contents_at f h) ls)) l
          ∙ ap (g h.version (contents_at f h) (turns_for (contents_at f h))) (sym judged)
          ∙ ap (λ (k : Head). g k.version (contents_at f k) (turns_for (contents_at f k)) (judging f)) same

      pub measure_from : answer_from h.version (contents_at f h) roles ≡ measuring f
      unfolding measuring
      measure_from = seen answer_by

      pub answer_from_lem : (room : ℕ) → room_for f ≤ room → answer_from h.version (contents_at f h) roles ≡ placing f room
      answer_from_lem room wide = measure_from ∙ sym (answers room wide)

      pub over_from_lem : (out : List ℕ) → room_for f ≤ length out → over_from h.version (contents_at f h) roles out ≡ placed_over f out
      unfolding placed_over placed_bytes measuring
      over_from_lem out wide =
          seen (λ v C ts x. over_by v C ts x out) ∙ over_answered (version_at f) (contents_of f) (turns_for (contents_of f)) (judging f) out
          ∙ ap (λ a. cond (eqb a.number 0) (sets out 0 (placed_bytes f)) out) (sym (answers (length out) wide))

    -- the candidates of its nodes
    pub surveyed_labels : (t t' : List ℕ) → t' ≡ surveyed f t → length t ≡ 1025 → Labelled (contents_at f h) t' × (length t' ≡ 1025)
    unfolding surveyed
    surveyed_labels t t' q n1025 =
        let room : length (contents_at f h).nodes < length t = omega (arith, nodes_held f h, (entered_fine f h e).0.nodes, n1025) in
        let (r, n) = names_parts f names_quiet in
        let body : NoRefusal (body_answer (head_at f) (contents_of f)) = subst NoRefusal (by_body f r).1 r in
        let shaped = ((both_quiet NoRefusal (records_answer (head_at f) (contents_of f)) (shape_answer (contents_of f)) (λ z. z)).0 body).1 in
        let filled : t' ≡ sets t 1 (candidates_in (contents_of f)) = q ∙ rw (eq-eqb (reading f).number 0 r) in
        let fits = subst (λ (k : Head). length (contents_at f k).nodes < length t) same room in
        let labels = subst (Labelled (contents_of f)) (sym filled) (labels_kept (contents_of f) t shaped n fits) in
        (subst (λ (k : Head). Labelled (contents_at f k) t') (sym same) labels, ap length filled ∙ length-sets t 1 (candidates_in (contents_of f)) ∙ n1025)

-- what a caller keeps of a long input is placed as the whole is
pub stands_measured : (kept input : List ℕ) → StandsFor kept input → measuring kept ≡ measuring input
stands_measured = stands_judged (λ n. no_place n 0) measuring head_refused

pub stands_placed : (room : ℕ) (kept input : List ℕ) → StandsFor kept input → placing kept room ≡ placing input room
unfolding placing
stands_placed room kept input s = ap₂ (λ r a. cond (ltb room r) (no_place 17 0) a) (stands_room kept input s) (stands_measured kept input s)

-- the output, where there is room for it
abbrev over : List ℕ → List ℕ → List ℕ
over out f = cond (eqb (measuring f).number 0) (sets out 0 (placed_bytes f)) out

over_by_room : (out f : List ℕ) → placed_over f out ≡ cond (ltb (length out) (room_for f)) out (over out f)
unfolding placed_over placing
over_by_room out f = go (ltb (length out) (room_for f))
  where
    go : (b : Bool) → cond (eqb (cond b (no_place 17 0) (measuring f)).number 0) (sets out 0 (placed_bytes f)) out ≡ cond b out (over out f)
    go true = refl
    go false = refl

pub stands_over : (out kept input : List ℕ) → StandsFor kept input → placed_over kept out ≡ placed_over input out
stands_over out kept input s =
    over_by_room out kept
    ∙ ap₂ (λ r o. cond (ltb (length out) r) out o) (stands_room kept input s) (stands_judged (λ n. out) (over out) refused_over kept input s)
    ∙ sym (over_by_room out input)
  where
    refused_over : (f : List ℕ) (n : ℕ) → head_of f ≡ Err n → over out f ≡ out
    refused_over f n h = rw (head_refused f n h, ne_eqb n 0 (λ z. let no_way : ⊥ = omega (arith, head_number_lem f n h, z) in no_way))

-- no answer is longer than the largest file, nor than the room that was asked for it
pub length_within : (f : List ℕ) (room : ℕ) → (placing f room).length ≤ room_for f
unfolding judging placeable
length_within f room = go (ltb room (room_for f)) refl (eqb (judging f).number 0) refl
  where
    none : (n p : ℕ) → placing f room ≡ no_place n p → (placing f room).length ≤ room_for f
    none n p e = let zero-long : (placing f room).length ≡ 0 = ap (λ (a : Placed). a.length) e in omega (arith, zero-long)

    go : (b : Bool) → ltb room (room_for f) ≡ b → (q : Bool) → eqb (judging f).number 0 ≡ q → (placing f room).length ≤ room_for f
    go true r q j = none 17 0 (too_small f room (ltb-true room (room_for f) r))
    go false r false j =
        none (judging f).number (judging f).place (placing_refused f room (judging f) (ltb-false room (room_for f) r) refl (eqb-false (judging f).number 0 j))
    go false r true j =
        let quiet : NoRefusal (judging f) = eqb-true (judging f).number 0 j in
        let (names, rest) = (both_quiet NoRefusal (reading_names f) (placeable (contents_of f)) (λ z. z)).0 quiet in
        let headed : Headed f = names_headed f names in
        let size : (placing f room).length ≡ 2 * ((head_for (version_at f) (contents_of f)).at.nodes + 3 * sizes_of (turns_for (contents_of f))) =
        ap (λ (a : Placed). a.length) (placing_placed f room (ltb-false room (room_for f) r) quiet) in
        omega (arith, size, nodes_begin f (head_at f) headed.laid, room_enough f (sizes_of (turns_for (contents_of f))) headed (few_nodes (contents_of f) (labels_in (contents_of f)) rest))

pub length_most : (f : List ℕ) (room : ℕ) → (placing f room).length ≤ largest
length_most f room = omega (arith, length_within f room, room_most f)

-- what a caller has in hand: an answer no longer than that, and an output as long as it was
pub answer_short : (f : List ℕ) (room : ℕ) (a : Placed) → a ≡ placing f room → a.length ≤ largest
answer_short f room a e = subst (λ (b : Placed). b.length ≤ largest) (sym e) (length_most f room)

pub output_long : (f out o : List ℕ) → o ≡ placed_over f out → length o ≡ length out
unfolding placed_over
output_long f out o e = ap length e ∙ go (eqb (placing f (length out)).number 0)
  where
    go : (b : Bool) → length (cond b (sets out 0 (placed_bytes f)) out) ≡ length out
    go true = length-sets out 0 (placed_bytes f)
    go false = refl
