-- What forming makes of a book.
use Rattle.std.specs.Prelude.{◌≡◌, ℕ, ◌%◌, ◌<◌, length, replicate, slice_index}
use Rattle.zones.specs.declared.book.Book.{Book}
use Rattle.zones.specs.declared.geometry.Geometry.{Geometry}
use Rattle.zones.specs.Defaults.{no_zone}

-- the number at a place of the table of groups, where stretches of all groups of a chip group stand one after another
abbrev pub group_at : Geometry → ℕ → ℕ
group_at g i = i % g.blocks

-- every zone is empty, and every row has all groups of its chip group
pub record Begun (b : Book) (g : Geometry) : Type 0 where
  pub geometry : b.geometry ≡ g
  pub zones : b.zones ≡ replicate 64 no_zone
  pub rows : b.rows ≡ replicate 16 (record { front = 0; count = b.geometry.blocks })
  pub groups : length b.groups ≡ 64
  pub rising : (i : ℕ) → i < 64 → slice_index b.groups i ≡ group_at b.geometry i
