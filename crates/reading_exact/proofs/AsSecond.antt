-- A file of version 1 and the same file in version 2, with all masks 0, hold the same, and both are read.
use mathlib.Core.Path.{◌≡◌, refl, sym, ap, subst}
use mathlib.Core.List.{List, [], ◌∷◌}
use Rattle.format.specs.Answers.{fine}
use Rattle.format.specs.declared.Role.{Role}
use Rattle.reading.specs.Reading.{reading}
use Rattle.reading_exact.specs.File.{Grants, first, second, third, version_of, roles_of, juniors_of, masks_none, as_second, File, WellFormed, contents_for, encode}
use Rattle.reading_exact.proofs.ContentsJudged.{ContentsFit, not_refused}
use Rattle.reading_exact.proofs.FileContents.{formed_by, known}
use Rattle.reading_exact.proofs.Exact.{contents_fit}

own_roles : (rs : List Role) → roles_of (masks_none (first rs)) ≡ rs
own_roles [] = refl
own_roles (r ∷ rs) = ap {B = List Role} (λ l. r ∷ l) (own_roles rs)

no_juniors : (rs : List Role) → juniors_of (masks_none (first rs)) ≡ juniors_of (first rs)
no_juniors [] = refl
no_juniors (r ∷ rs) = ap (λ l. 0 ∷ l) (no_juniors rs)

same_roles : (g : Grants) → roles_of (masks_none g) ≡ roles_of g
same_roles (first rs) = own_roles rs
same_roles (second rs) = refl
same_roles (third rs) = refl

same_juniors : (g : Grants) → juniors_of (masks_none g) ≡ juniors_of g
same_juniors (first rs) = no_juniors rs
same_juniors (second rs) = refl
same_juniors (third rs) = refl

pub as_second_held : (F : File) → contents_for (as_second F) ≡ contents_for F
as_second_held F = λ i. record {
  users = (contents_for F).users;
  roles = same_roles F.grants i;
  juniors = same_juniors F.grants i;
  kinds = (contents_for F).kinds;
  channels = (contents_for F).channels;
  sessions = (contents_for F).sessions;
  nodes = (contents_for F).nodes;
}

pub as_second_read : (F : File) → WellFormed F → reading (encode (as_second F)) ≡ fine
unfolding encode
as_second_read F w =
    let G : File = as_second F in
    not_refused (version_of G.grants) (contents_for G) (formed_by G) (known G) (subst ContentsFit (sym (as_second_held F)) (contents_fit F w))
