-- The day in spring in literal words: with one seat both schedulers are midway in the routine as it was cut, which
-- passes the check; in what is placed the first is midway and alone, and the second waits.
use Prim.Native.Nat.{ℕ, zero, suc, ◌+◌, ◌-◌, ◌≤◌, ◌<◌}
use mathlib.Core.Path.{◌≡◌, refl, sym, ◌∙◌, subst}
use mathlib.Core.Logic.{◌⊎◌, inl, inr}
use mathlib.Core.Bool.{Bool, true, false, ◌&&◌, ◌||◌, and-eq-true_iff, false≢true}
use mathlib.Core.List.{List, [], ◌∷◌}
use native.Mathlib.Omega.{arith}
use lib.Dec.{eqb, leb, ltb}
use lib.ListN.{length, get_or, get_or-map}
use borrow.Author.Tests.{eqb-true, eqb-false, ne_eqb, leb-true, ltb-true}
use Rattle.masks.specs.Mask.{has, with, without, minus, names_only, within}
use Rattle.masks.proofs.Laws.{has_none, has_with_other}
use Rattle.format.specs.Words.{bytes_of}
use Rattle.format.specs.Answers.{first_of, fine}
use Rattle.format.specs.Header.{from1, from2, from3, from4, from5, head_of}
use Rattle.format.specs.Contents.{Contents, contents_of, in_count, no_session, tabled, item, contents_at}
use Rattle.format.specs.Sections.{spot}
use Rattle.format.specs.Writing.{role_words, channel_words, session_words, node_rows, node_columns, table_words, file_words}
use Rattle.format.specs.Writing.{encoded}
use Rattle.format.specs.declared.Node.{Node}
use Rattle.format.specs.declared.Session.{Session}
use Rattle.format.proofs.ContentsLaws.{in_count_iff}
use Rattle.tables.specs.Records.{record_fits, section_answer, records_answer}
use Rattle.trees.specs.Ends.{following}
use Rattle.trees.specs.Shape.{node_fits, shape_from, roots, shape_answer}
use Rattle.reading.specs.Reading.{reading}
use Rattle.rules.specs.Juniors.{together, effective}
use Rattle.rules.specs.declared.Way.TheVariants.{Receives}
use Rattle.rules.specs.Schema.{schema_of, permits, permitting_to}
use Rattle.rules.specs.Names.{named, kind_of, mine}
use Rattle.rules.specs.Rules.{names_fit, kinds_fit, able, wrong, barred, child_of}
use Rattle.rules.specs.Checking.{reached, openings_from, first_by, rightly, names_answer, roles_answer}
use Rattle.rules.specs.Candidates.{candidates, candidates_in}
use Rattle.checking.specs.Check.{reading_names, checking}
use Rattle.hours.specs.Hours.{table_answer, rows_answer, roles_of, shut}
use Rattle.checking_at.specs.CheckAt.{shut_answer, roles_answer_at, reading_at, reading_names_at}
use Rattle.placing_at.specs.PlaceAt.{judging_at, measuring_at, placing_at, placed_bytes_at}
use Rattle.optimum.specs.Optimum.{scan, gate}
use Rattle.states.specs.States.{suits, up, row_of, taken, rows, turns_from, turns_of, labelled}
use Rattle.groups.specs.Groups.{before, sizes_of, ons_of, starts_from, groups_from, sessions_from}
use Rattle.placing.specs.Placing.{no_place, masks_answer, switches_answer, unserved_from, placeable, judging, measuring}
use Rattle.placing.specs.Placing.{placing}
use Rattle.placing.specs.Placing.{placed_bytes}
use Rattle.steps.specs.Threads.{value, first_free}
use Rattle.steps.specs.Choice.{thread_at, kind_held, meeting, sending, lone, alone_only, acting, done, outcome, choice}
use Rattle.choices.specs.Choices.{threads_from}
use Rattle.running.specs.Ways.{stands_in}
use Rattle.reading_exact.specs.Lists.{All}
use Rattle.reading_exact.specs.Tree.{past, write, flatten}
use Rattle.reading_exact.specs.File.{File, InCount, rooted, encode, ReadsAs, sent}
use Rattle.reading_exact.specs.Refusals.{nth, Begins, root}
use Rattle.reading_exact.proofs.Standing.{roots_in}
use Rattle.reading_exact.proofs.TagTests.{one_of}
use Rattle.checking_exact.specs.Typing.{a_channel, r_end, r_receive, r_send}
use Rattle.checking_exact.specs.Tables.{schema_for}
use Rattle.placing_exact.specs.Promised.{session, Covers}
use Rattle.hours_exact.specs.OpenFile.{with_users, open_file}
use Rattle.rounds.specs.Rounds.{numbers}
use Rattle.seats.specs.Seats.{limited_of, SeatedState, owner_of, seated_start, occupies, count_to, asks_seat, is_next, gets_seat}
use Rattle.seats.specs.Seats.{line_with, owners_by, seated_choice, seated_run, seated_ran_of}
use Rattle.seats.specs.SeatOrder.{InTreeOf}
use Rattle.seats.proofs.SeatedRuns.{always_last}
use Rattle.exclusion.specs.Exclusion.{AtOrBelow, here, by_child, Exchange, SwitchesOn, Midway, CoversAlone, OnlyBy, Alone}
use Rattle.exclusion.specs.Exclusion.{AloneWhileMidway, NeverBothMidway}
use Rattle.exclusion.specs.SpringCases.{written, as_data, cut, as_placed, one_seat, morning, spring_day, placed_day}
use Rattle.exclusion.specs.SpringCases.{first_on}
use Rattle.exclusion.proofs.NodesBelow.{below_inside}
use Rattle.exclusion.proofs.SessionNodes.{root_begins}
use Rattle.exclusion.proofs.PlacedFrom.{PlacedFrom, placed_from}
use Rattle.exclusion.proofs.MidwayAlone.{role_alone, never_two}

-- Each of so many nodes from j on has one child.
unfoldable chained : List Node → ℕ → ℕ → Bool
chained ns j zero = true
chained ns j (suc d) =
    in_count (length ns) j && (leb 2 (nth ns j).tag && (leb (nth ns j).tag 8 && chained ns (suc j) d))

-- Thread i of session k is midway in the state T, by tests: the session's tree begins at node r, and the thread has
-- done node b, stands at node j and has the send or receive n still to do.
record MidwayByTests (g : List ℕ) (T : SeatedState) (k i r b j n : ℕ) : Type 0 where
  thread : in_count (length T.state.threads) i ≡ true
  owner : owner_of T i ≡ k
  session : in_count (length (contents_of g).sessions) k ≡ true
  root : (get_or (contents_of g).sessions (k - 1) no_session).root ≡ r
  node : (thread_at T.state i).node ≡ j
  above : chained (contents_of g).nodes r (b - r) ≡ true
  begun : (eqb (nth (contents_of g).nodes b).tag 7
      || (eqb (nth (contents_of g).nodes b).tag 5 || eqb (nth (contents_of g).nodes b).tag 6)) ≡ true
  done : chained (contents_of g).nodes (suc b) (j - suc b) ≡ true
  ahead : chained (contents_of g).nodes j (n - j) ≡ true
  exchange : (eqb (nth (contents_of g).nodes n).tag 5 || eqb (nth (contents_of g).nodes n).tag 6) ≡ true

chained_below : (ns : List Node) (j d : ℕ) → chained ns j d ≡ true → AtOrBelow ns j (d + j)
unfolding chained
chained_below ns j zero h = let e : 0 + j ≡ j = omega arith in rw e here
chained_below ns j (suc d) h =
    let t : ℕ = (nth ns j).tag in
    let (a, b) = (and-eq-true_iff (in_count (length ns) j) _).0 h in
    let (l, u) = (and-eq-true_iff (leb 2 t) _).0 b in
    let (m, v) = (and-eq-true_iff (leb t 8) (chained ns (suc j) d)).0 u in
    let e : suc d + j ≡ d + suc j = omega arith in
    let rest : AtOrBelow ns (suc j) (suc d + j) = rw e (chained_below ns (suc j) d v) in
    by_child ((in_count_iff (length ns) j).0 a) (leb-true 2 t l, leb-true t 8 m) rest

chained_to : (ns : List Node) (j n : ℕ) → j ≤ n → chained ns j (n - j) ≡ true → AtOrBelow ns j n
chained_to ns j n l h =
    let e : n - j + j ≡ n = omega (arith, l) in
    subst (AtOrBelow ns j) e (chained_below ns j (n - j) h)

module _ (g : List ℕ) (passes : checking g ≡ fine) (T : SeatedState) (k i r b j n : ℕ)
    (S : MidwayByTests g T k i r b j n) (low : r ≤ b) (mid : suc b ≤ j) (high : j ≤ n) where
  abbrev C : Contents
  C = contents_of g

  k_in : InCount (length C.sessions) k
  k_in = (in_count_iff (length C.sessions) k).0 S.session

  at_root : InTreeOf C k r
  at_root =
      let e : get_or (roots_in C.sessions) (k - 1) 0 ≡ r =
      get_or-map (λ (s : Session). s.root) C.sessions (k - 1) no_session ∙ S.root in
      root k_in (subst (Begins C.nodes k) e (root_begins g passes k k_in))

  tests_midway : Midway C T k i
  tests_midway =
      record {
        thread = (in_count_iff (length T.state.threads) i).0 S.thread;
        owner = S.owner;
        since = b;
        inside = below_inside C at_root (chained_to C.nodes r b low S.above);
        begun = begins (eqb (nth C.nodes b).tag 7) refl S.begun;
        part = record {
          done = rw S.node (chained_to C.nodes (suc b) j mid S.done);
          next = n;
          exchange = (one_of (nth C.nodes n).tag 5 6).0 S.exchange;
          ahead = rw S.node (chained_to C.nodes j n high S.ahead);
        };
      }
    where
      begins : (x : Bool) → eqb (nth C.nodes b).tag 7 ≡ x
          → (x || (eqb (nth C.nodes b).tag 5 || eqb (nth C.nodes b).tag 6)) ≡ true
          → ((nth C.nodes b).tag ≡ 7) ⊎ Exchange (nth C.nodes b)
      begins true e h = inl (eqb-true (nth C.nodes b).tag 7 e)
      begins false e h = inr ((one_of (nth C.nodes b).tag 5 6).0 h)

abbrev in_spring : SeatedState
in_spring = (seated_ran_of cut one_seat spring_day).seating

abbrev in_begun : SeatedState
in_begun = (seated_ran_of as_placed one_seat first_on).seating

abbrev in_placed : SeatedState
in_placed = (seated_ran_of as_placed one_seat placed_day).seating

-- what is computed
record Computed : Type 0 where
  cut_passes : checking cut ≡ fine
  one : MidwayByTests cut in_spring 1 1 1 2 4 5
  two : MidwayByTests cut in_spring 2 2 8 9 10 12
  placed : (placing written 6874).number ≡ 0
  same : placed_bytes written ≡ as_placed
  passes : checking as_placed ≡ fine
  begun : MidwayByTests as_placed in_begun 1 1 1 1 2 3
  alone : MidwayByTests as_placed in_placed 1 1 1 2 3 3
  waits : in_placed.lines 1 ≡ 2 ∷ []
  placed_at : (placing_at written morning 420 6874).number ≡ 0
  same_at : placed_bytes_at written morning 420 ≡ as_placed
  shut_at : placing_at written morning 900 6874 ≡ no_place 15 1

computed : Computed
unfolding has with without names_only within bytes_of first_of from1 from2 from3 from4 from5 head_of tabled item spot
    contents_at record_fits section_answer records_answer following node_fits shape_from roots shape_answer reading together
    effective permits permitting_to named kind_of mine names_fit kinds_fit able wrong barred child_of reached openings_from
    first_by rightly names_answer roles_answer reading_names checking role_words channel_words session_words node_rows
    node_columns table_words file_words encoded candidates candidates_in scan gate suits up row_of taken rows turns_from
    turns_of labelled before sizes_of ons_of starts_from groups_from sessions_from masks_answer switches_answer unserved_from
    placeable judging measuring placing placed_bytes value first_free kind_held meeting sending lone alone_only acting
    done outcome choice threads_from stands_in numbers occupies count_to asks_seat is_next gets_seat line_with owners_by
    seated_choice seated_run chained minus table_answer rows_answer roles_of shut shut_answer roles_answer_at reading_at
    reading_names_at judging_at measuring_at placing_at placed_bytes_at
computed =
    record {
      cut_passes = refl;
      one = record {
        thread = refl;
        owner = refl;
        session = refl;
        root = refl;
        node = refl;
        above = refl;
        begun = refl;
        done = refl;
        ahead = refl;
        exchange = refl;
      };
      two = record {
        thread = refl;
        owner = refl;
        session = refl;
        root = refl;
        node = refl;
        above = refl;
        begun = refl;
        done = refl;
        ahead = refl;
        exchange = refl;
      };
      placed = refl;
      same = refl;
      passes = refl;
      begun = record {
        thread = refl;
        owner = refl;
        session = refl;
        root = refl;
        node = refl;
        above = refl;
        begun = refl;
        done = refl;
        ahead = refl;
        exchange = refl;
      };
      alone = record {
        thread = refl;
        owner = refl;
        session = refl;
        root = refl;
        node = refl;
        above = refl;
        begun = refl;
        done = refl;
        ahead = refl;
        exchange = refl;
      };
      waits = refl;
      placed_at = refl;
      same_at = refl;
      shut_at = refl;
    }

-- Cut, two have read and neither has written, with one seat and in a file that passes the check.
pub both_midway : (checking cut ≡ fine) × Midway (contents_of cut) in_spring 1 1 × Midway (contents_of cut) in_spring 2 2
both_midway =
    let passes : checking cut ≡ fine = computed.cut_passes in (
      passes,
      tests_midway cut passes in_spring 1 1 1 2 4 5 computed.one (omega arith) (omega arith) (omega arith),
      tests_midway cut passes in_spring 2 2 8 9 10 12 computed.two (omega arith) (omega arith) (omega arith),
    )

-- The routine as it was written is placed so, also for a minute at which role 1 is open; at another it is not placed ..
pub placed_so : ((placing written 6874).number ≡ 0) × (placed_bytes written ≡ as_placed)
placed_so = (computed.placed, computed.same)

pub placed_so_at : ((placing_at written morning 420 6874).number ≡ 0) × (placed_bytes_at written morning 420 ≡ as_placed)
    × (placing_at written morning 900 6874 ≡ no_place 15 1)
placed_so_at = (computed.placed_at, computed.same_at, computed.shut_at)

as_read : ReadsAs written as_data
unfolding bytes_of role_words channel_words session_words node_rows node_columns table_words file_words encoded encode rooted
    flatten write past
as_read = sent refl

unfoldable bytes_only : List ℕ → Bool
bytes_only [] = true
bytes_only (b ∷ l) = ltb b 256 && bytes_only l

small_by : (l : List ℕ) → bytes_only l ≡ true → All (λ (b : ℕ). b < 256) l
unfolding bytes_only
small_by [] h = tt
small_by (b ∷ l) h = let (x, y) = (and-eq-true_iff (ltb b 256) (bytes_only l)).0 h in (ltb-true b 256 x, small_by l y)

small : All (λ (b : ℕ). b < 256) written
unfolding bytes_of bytes_only
small = small_by written refl

-- .. role 1 alone covers each scheduler's session ..
with_one : with 0 1 ≡ 1
unfolding with
with_one = refl

-- a session whose user has role 1 and no other
only_one : (F : File) (k : ℕ) → (schema_for F).assigned (session F k).user ≡ 1 → (y : ℕ) → Covers F k y → y ≡ 1
only_one F k own y (a, _) = go (eqb 1 y) refl
  where
    go : (b : Bool) → eqb 1 y ≡ b → y ≡ 1
    go true e = sym (eqb-true 1 y e)
    go false e =
        let out : has (with 0 1) y ≡ false = has_with_other 0 1 y (eqb-false 1 y e) ∙ has_none y in
        absurd (false≢true (sym (rw with_one at out) ∙ (rw own at a)))

-- whatever the users' masks, where both schedulers have role 1 and no other
covered_with : (us : List ℕ) → item 0 us 1 ≡ 1 → item 0 us 2 ≡ 1
    → CoversAlone (with_users us as_data) 1 1 × CoversAlone (with_users us as_data) 2 1
unfolding has with item permits together effective
covered_with us one two =
    let F : File = with_users us as_data in
    let r : InCount 2 1 = (omega arith, omega arith) in
    let c : InCount 3 1 = (omega arith, omega arith) in
    let d : InCount 3 2 = (omega arith, omega arith) in
    let e : InCount 3 3 = (omega arith, omega arith) in
    let covers-1 : Covers F 1 1 = (
      rw one refl,
      r_receive 1 (a_channel 1 c refl refl) (1, r, refl, refl)
          (r_send 2 (a_channel 3 e refl refl) (1, r, refl, refl) r_end),
    ) in
    let covers-2 : Covers F 2 1 = (
      rw two refl,
      r_receive 1 (a_channel 2 d refl refl) (1, r, refl, refl)
          (r_send 2 (a_channel 3 e refl refl) (1, r, refl, refl) r_end),
    ) in
    ((covers-1, only_one F 1 one), (covers-2, only_one F 2 two))

covered : CoversAlone as_data 1 1 × CoversAlone as_data 2 1
unfolding item
covered = covered_with as_data.users refl refl

covered_at : CoversAlone (open_file morning 420 as_data) 1 1 × CoversAlone (open_file morning 420 as_data) 2 1
unfolding with item minus roles_of shut
covered_at = covered_with (open_file morning 420 as_data).users refl refl

pub each_covered : ReadsAs written as_data × (CoversAlone as_data 1 1 × CoversAlone as_data 2 1)
    × (CoversAlone (open_file morning 420 as_data) 1 1 × CoversAlone (open_file morning 420 as_data) 2 1)
each_covered = (as_read, covered, covered_at)

-- .. so that never both are midway, whatever the list of choices ..
from_written : PlacedFrom (placed_bytes written) as_data
from_written = placed_from written small 6874 computed.placed as_data as_read

pub spring_never : NeverBothMidway as_placed one_seat 1 2
spring_never =
    subst (λ (b : List ℕ). NeverBothMidway b one_seat 1 2) computed.same
    (never_two (placed_bytes written) as_data from_written 1 2 (omega arith, omega arith) (omega arith, omega arith)
    (λ e. omega (arith, e)) 1 covered.0 covered.1 one_seat refl)

first_alone : AloneWhileMidway as_placed one_seat 1 1
first_alone =
    subst (λ (b : List ℕ). AloneWhileMidway b one_seat 1 1) computed.same
    (role_alone (placed_bytes written) as_data from_written 1 1 (omega arith, omega arith) covered.0.0 covered.0.1
    one_seat refl)

-- role 1 and no other permits receives on kind 1, the schedulers' reading
pub only_reading : OnlyBy (schema_of (contents_of as_placed)) 1 Receives 1
unfolding has bytes_of from1 from2 from3 from4 from5 head_of tabled item spot contents_at together effective permits
only_reading zero h = absurd (false≢true h)
only_reading (suc zero) h = refl
only_reading (suc (suc zero)) h = absurd (false≢true h)
only_reading (suc (suc (suc y))) h =
    let r : ℕ = suc (suc (suc y)) in
    absurd (false≢true (rw (ne_eqb r 2 (λ z. omega (arith, z)), ne_eqb r 1 (λ z. omega (arith, z))) at h))

first_begun : Midway (contents_of as_placed) in_begun 1 1
first_begun =
    tests_midway as_placed computed.passes in_begun 1 1 1 1 2 3 computed.begun (omega arith) (omega arith)
    (omega arith)

first_midway : Midway (contents_of as_placed) in_placed 1 1
first_midway =
    tests_midway as_placed computed.passes in_placed 1 1 1 2 3 3 computed.alone (omega arith) (omega arith)
    (omega arith)

-- .. the first scheduler is midway once its role is on, by that step alone, and alone in it to its send ..
switched : SwitchesOn (contents_of as_placed) 1 1 1
unfolding bytes_of from1 from2 from3 from4 from5 head_of tabled item spot contents_at first_begun tests_midway
switched = record { inside = first_begun.inside; tag = refl; role = refl }

pub on_begins : (M : Midway (contents_of as_placed) in_begun 1 1) × (M.since ≡ 1)
    × SwitchesOn (contents_of as_placed) 1 1 1
unfolding first_begun tests_midway
on_begins = (first_begun, refl, switched)

-- .. and the first scheduler, which has read and not yet written, is alone in its role, and the second waits for it.
pub one_alone : Midway (contents_of as_placed) in_placed 1 1 × Alone (contents_of as_placed) in_placed 1 1 1
    × (in_placed.lines 1 ≡ 2 ∷ [])
one_alone = (
  first_midway,
  always_last (limited_of (contents_of as_placed) one_seat) _ placed_day (seated_start (contents_of as_placed))
      (first_alone placed_day) 1 first_midway,
  computed.waits,
)
