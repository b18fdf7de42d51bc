-- A file turned holds what it held, is read as it was, and turned back is the same bytes.
use Prim.Native.Nat.{ℕ, ◌+◌, ◌%◌, ◌≤◌, ◌<◌}
use mathlib.Core.Path.{◌≡◌, refl, sym, ap, ap₂, subst, ◌∙◌}
use mathlib.Core.Logic.{inl, inr}
use mathlib.Core.Bool.{Bool, true, false, cond, false≢true, ◌||◌}
use mathlib.Core.List.{List, [], ◌∷◌, ◌++◌, map, append_assoc}
use native.Mathlib.Omega.{arith}
use lib.Dec.{eqb, ltb}
use lib.ListN.{length, drop, take}
use lib.Seq.{sets-eq}
use borrow.Author.Tests.{eqb-true, eq-eqb, ne_eqb, ltb-true, ltb-false}
use Rattle.format.specs.Words.{word_at, bytes_of}
use Rattle.format.specs.Answers.{not_written}
use Rattle.format.specs.Header.{has_juniors, six_words, offset_words, more, junior_records, six_at, offsets_at, head_in, counts_fit, offsets_fit, length_fits, nothing_planned, as_read, head_at, version_at, length_for, Laid, from1, from2, from3, from4, from5, head_of}
use Rattle.format.specs.Sections.{spot}
use Rattle.format.specs.Contents.{Contents, tabled, contents_at, contents_of}
use Rattle.format.specs.Writing.{role_words, channel_words, session_words, node_rows, node_columns, table_words, file_words, head_for, encoded}
use Rattle.format.specs.declared.Head.{Head}
use Rattle.format.specs.declared.Node.{Node}
use Rattle.std.specs.Prelude.{Result, Ok, Err}
use Rattle.format.specs.declared.Written.{Written}
use Rattle.format.proofs.HeadLaws.{juniors_iff, IsVersion, Headed, headed, headed_fine, head_number_lem, more_few, juniors_few}
use Rattle.format.proofs.ContentsLaws.{roles_held, juniors_held, nodes_held}
use Rattle.tables.specs.Records.{records_answer, section_answer}
use Rattle.reading.specs.Reading.{body_answer, reading_by, reading}
use Rattle.reading_exact.specs.Lists.{All}
use Rattle.reading_exact.proofs.Places.{Formed, length_encoded, encoded_back}
use Rattle.reading_exact.proofs.SectionRows.{written_read, head_back}
use Rattle.reading_exact.proofs.WholeFile.{bytes_back}
use Rattle.turning.specs.Turning.{head_number, turn_refusal, turned_to, turning, turned_over, with_version}
use Rattle.turning.proofs.TurnLaws.{head_turned}
use Rattle.turning_exact.specs.ColumnWords.{row_booking, column_booking}

-- a file with masks of juniors holds what every such version may hold
pub formed_for : (f : List ℕ) (to : ℕ) → has_juniors to ≡ true → Formed to (contents_of f)
formed_for f to has = inl (has, juniors_held f (head_at f) ∙ sym (roles_held f (head_at f)))

-- whatever the file, it is held by its column file too
pub turned_holds : (f : List ℕ) (to : ℕ) → has_juniors to ≡ true → contents_of (turned_to to f) ≡ contents_of f
turned_holds f to has = encoded_back to (contents_of f) (formed_for f to has)

pub turned_version : (f : List ℕ) (to : ℕ) → version_at (turned_to to f) ≡ to
turned_version f to = ap (λ (h : Head). h.version) (head_back to (contents_of f))

module _ (f : List ℕ) (to : ℕ) (d : Headed f) (has : has_juniors (version_at f) ≡ true) (has' : has_juniors to ≡ true) where
  abbrev h : Head
  h = head_at f

  abbrev g : List ℕ
  g = turned_to to f

  -- its head is the file's own, of another version
  pub turned_head : head_at g ≡ with_version h to
  turned_head = head_back to (contents_of f) ∙ sym (head_turned f h to d.laid has has')

  long : length f ≡ length_for h.at.nodes h.count.nodes
  long = go f d.laid has
    where
      go : (k : List ℕ) → Laid k (head_at k) → has_juniors (version_at k) ≡ true → length k ≡ length_for (head_at k).at.nodes (head_at k).count.nodes
      go [] l e = absurd (false≢true e)
      go (x ∷ xs) l e = l.sized

  -- as long as it was
  pub turned_length : length g ≡ length f
  turned_length =
      length_encoded to (contents_of f) (formed_for f to has')
      ∙ ap₂ length_for (ap (λ (k : Head). k.at.nodes) (sym (head_turned f h to d.laid has has'))) (nodes_held f h) ∙ sym long

  turned_laid : Laid g (with_version h to)
  turned_laid =
      let l : Laid f h = d.laid in
      let m : more to ≡ 1 = rw has' in
      let m' : more h.version ≡ 1 = rw has in
      let j : junior_records to h.count.roles ≡ h.count.roles = rw has' in
      let j' : junior_records h.version h.count.roles ≡ h.count.roles = rw has in
      record {
        users = l.users;
        roles = l.roles;
        kinds = l.kinds;
        channels = l.channels;
        sessions = l.sessions;
        nodes = l.nodes;
        few_more = more_few to;
        few_juniors = juniors_few to h.count.roles;
        users_at = omega (arith, l.users_at, m, m');
        roles_at = l.roles_at;
        juniors_at = l.juniors_at;
        kinds_at = omega (arith, l.kinds_at, j, j');
        channels_at = l.channels_at;
        sessions_at = l.sessions_at;
        nodes_at = l.nodes_at;
        sized = ap length (written_read to (contents_of f)) ∙ turned_length ∙ long;
      }

  pub turned_headed : Headed g
  turned_headed = record {
    version = subst IsVersion (sym (turned_version f to)) (inr ((juniors_iff to).0 has'));
    laid = subst (Laid g) (sym turned_head) turned_laid;
  }

  -- 6 to 8 object to the same, at the same places
  pub turned_read : reading g ≡ reading f
  unfolding reading records_answer section_answer
  turned_read =
      let body : body_answer (head_at g) (contents_of g) ≡ body_answer h (contents_of f) =
      ap₂ body_answer turned_head (turned_holds f to has') in
      ap (reading_by g) (headed_fine g turned_headed) ∙ body ∙ sym (ap (reading_by f) (headed_fine f d))

  -- turned back it is the same file
  pub turned_back : (from : ℕ) → version_at f ≡ from → All (λ b. b < 256) f → turned_to from g ≡ f
  turned_back from is bytes =
      ap₂ encoded (sym is) (turned_holds f to has') ∙ bytes_back f d bytes ∙ whole f has
    where
      whole : (k : List ℕ) → has_juniors (version_at k) ≡ true → as_read k ≡ k
      whole [] e = absurd (false≢true e)
      whole (x ∷ xs) e = refl

-- where turning answers 0, the file is of that version and 1 to 5 leave it clean
pub turned_clean : (from : ℕ) (f : List ℕ) (room : ℕ) → (turning from f room).number ≡ 0 → (6908 ≤ room) × Headed f × (version_at f ≡ from)
unfolding turning turn_refusal
turned_clean from f room zero = first (ltb room 6908) refl zero
  where
    written : (n : ℕ) → (cond (eqb n 0) (record { number = 0; place = 0; length = length f }) (not_written n 0)).number ≡ 0 → n ≡ 0
    written n e = go (eqb n 0) refl e
      where
        go : (b : Bool) → eqb n 0 ≡ b → (cond b (record { number = 0; place = 0; length = length f }) (not_written n 0)).number ≡ 0 → n ≡ 0
        go true t e = eqb-true n 0 t
        go false t e = e

    by_head : (a : Result Head ℕ) → head_of f ≡ a → (b : Bool) → eqb (version_at f) from ≡ b → cond (eqb (head_number a) 1 || b) (head_number a) 2 ≡ 0 → Headed f × (version_at f ≡ from)
    by_head (Err n) e b t z = absurd (go (eqb n 1) b z)
      where
        go : (x y : Bool) → cond (x || y) n 2 ≡ 0 → ⊥
        go true y z = omega (arith, z, head_number_lem f n e)
        go false true z = omega (arith, z, head_number_lem f n e)
        go false false z = omega (arith, z)
    by_head (Ok k) e true t z = ((headed f k e).0, eqb-true (version_at f) from t)
    by_head (Ok k) e false t z = absurd (omega (arith, z))

    first : (b : Bool) → ltb room 6908 ≡ b
        → (cond b (not_written 17 0) (cond (eqb (turn_refusal from f) 0) (record { number = 0; place = 0; length = length f }) (not_written (turn_refusal from f) 0))).number ≡ 0
        → (6908 ≤ room) × Headed f × (version_at f ≡ from)
    first true t z = absurd (omega (arith, z))
    first false t z = let both = by_head (head_of f) refl (eqb (version_at f) from) refl (written (turn_refusal from f) z) in (ltb-false room 6908 t, both.0, both.1)

pub clean_turned : (from : ℕ) (f : List ℕ) (room : ℕ) → 6908 ≤ room → Headed f → version_at f ≡ from → turning from f room ≡ record { number = 0; place = 0; length = length f }
unfolding turning turn_refusal
clean_turned from f room l d is = go (ltb room 6908) refl
  where
    quiet : turn_refusal from f ≡ 0
    quiet = rw (headed_fine f d, eq-eqb (version_at f) from is)

    go : (b : Bool) → ltb room 6908 ≡ b
        → cond b (not_written 17 0) (cond (eqb (turn_refusal from f) 0) (record { number = 0; place = 0; length = length f }) (not_written (turn_refusal from f) 0)) ≡ record { number = 0; place = 0; length = length f }
    go true t = absurd (omega (arith, l, ltb-true room 6908 t))
    go false t = rw quiet

-- both ways
module _ (from to : ℕ) (has : has_juniors from ≡ true) (has' : has_juniors to ≡ true) (f : List ℕ) (bytes : All (λ b. b < 256) f) (room : ℕ) (zero : (turning from f room).number ≡ 0) where
  clean : (6908 ≤ room) × Headed f × (version_at f ≡ from)
  clean = turned_clean from f room zero

  own : has_juniors (version_at f) ≡ true
  own = ap has_juniors clean.2 ∙ has

  pub there_and_back : (turning to (turned_to to f) room ≡ turning from f room) × (turned_to from (turned_to to f) ≡ f)
  there_and_back = (
    clean_turned to (turned_to to f) room clean.0 (turned_headed f to clean.1 own has') (turned_version f to)
        ∙ ap (λ (n : ℕ). record { number = 0; place = 0; length = n }) (turned_length f to clean.1 own has')
        ∙ sym (clean_turned from f room clean.0 clean.1 clean.2),
    turned_back f to clean.1 own has' from clean.2 bytes,
  )

-- what is written, and what stays
module _ (from to : ℕ) (has : has_juniors from ≡ true) (has' : has_juniors to ≡ true) (f out : List ℕ) where
  pub turned_writes : (turning from f (length out)).number ≡ 0
      → ((turning from f (length out)).length ≡ length (turned_to to f)) × (turned_over from to f out ≡ turned_to to f ++ drop (length (turned_to to f)) out)
  unfolding turned_over
  turned_writes zero =
      let (room, d, is) = turned_clean from f (length out) zero in
      let own : has_juniors (version_at f) ≡ true = ap has_juniors is ∙ has in
      let same : length (turned_to to f) ≡ length f = turned_length f to d own has' in
      let few : length f ≤ 6908 = let l : Laid f (head_at f) = d.laid in omega (arith, l, long f to d own has') in (
        ap (λ (w : Written). w.length) (clean_turned from f (length out) room d is) ∙ sym same,
        rw (eq-eqb (turning from f (length out)).number 0 zero) (sets-eq (turned_to to f) out 0 (omega (arith, same, few, room)) ∙ none (turned_to to f)),
      )
    where
      none : (ws : List ℕ) → take 0 out ++ ws ++ drop (0 + length ws) out ≡ ws ++ drop (length ws) out
      none ws = let z : 0 + length ws ≡ length ws = omega arith in ap (λ (k : ℕ). ws ++ drop k out) z

  pub refused_writes_nothing : ((turning from f (length out)).number ≡ 0 → ⊥) → turned_over from to f out ≡ out
  unfolding turned_over
  refused_writes_nothing loud = rw (ne_eqb (turning from f (length out)).number 0 loud)

-- the same tests refuse the same
same_number : (a b c d e : Bool) (h k : Head)
    → head_number (cond a (Err 1) (cond b (Err 1) (cond c (cond d (cond e (Ok h) (Err 5)) (Err 4)) (Err 3))))
    ≡ head_number (cond a (Err 1) (cond b (Err 1) (cond c (cond d (cond e (Ok k) (Err 5)) (Err 4)) (Err 3))))
same_number true b c d e h k = refl
same_number false true c d e h k = refl
same_number false false false d e h k = refl
same_number false false true false e h k = refl
same_number false false true true false h k = refl
same_number false false true true true h k = refl

-- 1 to 5 refuse the same of bytes of version 3 as of the same bytes of version 2
pub same_head_refusals : (bs : List ℕ) → head_number (head_of (3 ∷ 0 ∷ bs)) ≡ head_number (head_of (2 ∷ 0 ∷ bs))
unfolding head_of from1 from2 from3 from4 from5
same_head_refusals bs =
    let f : List ℕ = 3 ∷ 0 ∷ bs in
    same_number (ltb (length f) 28) (eqb (length f % 2) 1) (counts_fit (six_at f 1)) (offsets_fit 3 (six_at f 1) (offsets_at f 3)) (length_fits (word_at f 6) (head_in f).at.nodes (length f))
    (head_in f) (head_in (2 ∷ 0 ∷ bs))

-- zero bytes are the version 1 file with all counts 0
pub nothing_turned : (room : ℕ) → (turning 2 [] room ≡ turning 2 nothing_planned room) × (turning 3 [] room ≡ turning 3 nothing_planned room)
unfolding turning turn_refusal head_of from1 from2 from3 from4 from5
nothing_turned room = (refl, refl)

-- in words
pub booking_turned : (turned_to 3 (bytes_of row_booking) ≡ bytes_of column_booking) × (turned_to 2 (bytes_of column_booking) ≡ bytes_of row_booking)
unfolding bytes_of tabled spot contents_at role_words channel_words session_words node_rows node_columns table_words file_words encoded
booking_turned = (refl, refl)

pub booking_answered : (turning 2 (bytes_of row_booking) 6908 ≡ record { number = 0; place = 0; length = 88 }) × (turning 3 (bytes_of column_booking) 6908 ≡ record { number = 0; place = 0; length = 88 })
    × (turning 3 (bytes_of row_booking) 6908 ≡ not_written 2 0) × (turning 2 (bytes_of column_booking) 6908 ≡ not_written 2 0) × (turning 2 [] 6908 ≡ not_written 2 0)
    × (turning 2 (bytes_of row_booking) 6907 ≡ not_written 17 0)
unfolding turning turn_refusal bytes_of head_of from1 from2 from3 from4 from5
booking_answered = (refl, refl, refl, refl, refl, refl)

-- "the rest is version 2": the words of both forms of a file
pub forms_in_words : (C : Contents) → (rest : List ℕ) × (file_words 2 C ≡ 2 ∷ (rest ++ node_rows C.nodes))
    × (file_words 3 C ≡ 3 ∷ (rest ++ (map (λ (n : Node). n.tag) C.nodes ++ (map (λ (n : Node). n.f1) C.nodes ++ map (λ (n : Node). n.f2) C.nodes))))
unfolding file_words table_words node_columns
forms_in_words C =
    let H : Head = head_for 2 C in
    let head : List ℕ = six_words H.count ++ offset_words 2 H.at in
    let tables : List ℕ = table_words 2 C in
    let sessions : List ℕ = session_words C.sessions in
    (head ++ (tables ++ sessions), joined head tables sessions 2 (node_rows C.nodes), joined head tables sessions 3 (node_columns C.nodes))
  where
    joined : (a b c : List ℕ) (v : ℕ) (d : List ℕ) → v ∷ (a ++ (b ++ (c ++ d))) ≡ v ∷ ((a ++ (b ++ c)) ++ d)
    joined a b c v d = ap {B = List ℕ} (λ l. v ∷ l) (sym (append_assoc a (b ++ c) d ∙ ap (λ l. a ++ l) (append_assoc b c d)))
