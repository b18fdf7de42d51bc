-- What a file adds to the sheet, from what is decided, and that it keeps within what the sums have room for.
use Prim.Native.Nat.{ℕ, ◌*◌, ◌≤◌}
use mathlib.Core.Path.{◌≡◌, refl, ap, ◌∙◌}
use mathlib.Core.List.{List, [], ◌∷◌}
use mathlib.Core.Bool.{Bool, true, false, cond}
use native.Mathlib.Omega.{arith}
use lib.Dec.{eqb}
use lib.ListN.{length}
use borrow.Author.Tests.{eqb-true, eq-eqb, ne_eqb}
use Rattle.format.specs.Header.{head_at}
use Rattle.format.specs.Contents.{Contents, contents_at, contents_of}
use Rattle.format.specs.declared.Head.{Head}
use Rattle.format.specs.declared.Verdict.{Verdict}
use Rattle.format.proofs.AnswerLaws.{NoRefusal, both_quiet}
use Rattle.format.proofs.ContentsLaws.{sessions_held}
use Rattle.std.specs.Prelude.{Ok}
use Rattle.reading_exact.specs.Order.{in_turn}
use Rattle.reading_exact.proofs.FirstLaws.{number_of}
use Rattle.checking.specs.Check.{reading_names, entered}
use Rattle.checking.proofs.CheckLaws.{names_headed}
use Rattle.states.specs.declared.Turn.{Turn}
use Rattle.groups.specs.Groups.{sizes_of, ons_of}
use Rattle.groups.proofs.WriteLaws.{size_switches, on_switch}
use Rattle.placing.specs.Placing.{labels_in, Labelled, turns_for, placeable, judging}
use Rattle.placing.proofs.DecideLaws.{few_nodes}
use Rattle.placing.proofs.PlaceLaws.{seen}
use Rattle.placing_exact.proofs.AnswerStages.{Among, none, some, judging_among}
use Rattle.sheets.specs.Entries.{most_from, refused_at, entry_by, entry_from, entry_of}
use Rattle.sheets.specs.Sheets.{Within}

-- where the table has each node's candidates, what is found from it is the file's entry
pub entry_from_lem : (f : List ℕ) (h : Head) (e : entered f ≡ Ok h) (roles : List ℕ) → Labelled (contents_at f h) roles → entry_from (contents_at f h) roles ≡ entry_of f
unfolding entry_of
entry_from_lem f h e roles l = seen f h e roles l (λ version C ts v. entry_by C ts v)

module _ (C : Contents) (ts : List Turn) (v : Verdict) where
  pub entry_loud : (NoRefusal v → ⊥) → entry_by C ts v ≡ refused_at v.number
  entry_loud l = rw (ne_eqb v.number 0 l)

  pub entry_quiet : NoRefusal v → entry_by C ts v ≡ record { number = 0; sessions = length C.sessions; on_steps = ons_of ts; most = most_from 1 0 0 C.nodes ts }
  entry_quiet q = rw (eq-eqb v.number 0 q)

pub entry_refused : (f : List ℕ) (v : Verdict) → judging f ≡ v → (NoRefusal v → ⊥) → entry_of f ≡ refused_at v.number
unfolding entry_of
entry_refused f v e l = ap (entry_by (contents_of f) (turns_for (contents_of f))) e ∙ entry_loud (contents_of f) (turns_for (contents_of f)) v l

-- an on step is a node of its own
ons_within : (ts : List Turn) → ons_of ts ≤ sizes_of ts
unfolding ons_of sizes_of
ons_within [] = omega arith
ons_within (t ∷ ts) = omega (arith, ons_within ts, size_switches t, on_switch t)

-- only 1 to 10, 14 to 16 and 21 can be counted
number_few : (f : List ℕ) → (judging f).number ≤ 28
number_few f = go (judging_among f 6908)
  where
    turn : (n : ℕ) → in_turn n ≤ 32 → n ≤ 28
    turn n = by (eqb n 21) refl
      where
        by : (b : Bool) → eqb n 21 ≡ b → cond b 13 (2 * n) ≤ 32 → n ≤ 28
        by true e l = omega (arith, eqb-true n 21 e)
        by false e l = omega (arith, l)

    go : Among 2 32 (judging f) → (judging f).number ≤ 28
    go (none e) = omega (arith, number_of e)
    go (some a b) = turn (judging f).number b

pub entry_within : (f : List ℕ) → Within (entry_of f)
unfolding entry_of judging placeable
entry_within f = go (eqb (judging f).number 0) refl
  where
    go : (b : Bool) → eqb (judging f).number 0 ≡ b
        → Within (cond b (record { number = 0; sessions = length (contents_of f).sessions; on_steps = ons_of (turns_for (contents_of f)); most = most_from 1 0 0 (contents_of f).nodes (turns_for (contents_of f)) }) (refused_at (judging f).number))
    go false e = record { numbers = number_few f; served = omega arith; ons = omega arith }
    go true e =
        let (names, rest) = (both_quiet NoRefusal (reading_names f) (placeable (contents_of f)) (λ z. z)).0 (eqb-true (judging f).number 0 e) in
        let laid = (names_headed f names).laid in
        record {
          numbers = omega arith;
          served = omega (arith, laid.sessions, sessions_held f (head_at f));
          ons = omega (arith, ons_within (turns_for (contents_of f)), few_nodes (contents_of f) (labels_in (contents_of f)) rest);
        }
