use mathlib.Core.Path.{◌≡◌}
use lib.ListN.{length}
use Prim.Native.Nat.{ℕ}
use mathlib.Core.Path.{◌∙◌, ap}
use mathlib.Core.List.{List, [], ◌∷◌}
use lib.ListN.{get_or}
use lib.Seq.{sets}
use Rattle.offering.proofs.WriteLaws.{copied, thread_listed}
use native.Mathlib.Omega.{arith}
use borrow.Author.Rules.{rules}
use Rattle.offering.proofs.write.put_thread.Goals as goal

pub returns : goal.returns
returns c =
    let a = c.args in
    let long : length a.it.vars ≡ 8 = search rules in
    let v = a.it.vars in
    let words : List ℕ = a.it.user ∷ a.it.node ∷ a.it.mask ∷ c.role_count.result ∷ get_or v 0 0 ∷ get_or v 1 0 ∷ get_or v 2 0 ∷ get_or v 3 0 ∷ get_or v 4 0 ∷ get_or v 5 0 ∷ get_or v 6 0 ∷ get_or v 7 0 ∷ [] in
    copied a.out.now _ words a.at 0 12 (omega arith) (omega arith) c.copy_words.ensures
    ∙ ap (sets a.out.now a.at) (thread_listed a.it c.role_count.result long c.role_count.ensures)
