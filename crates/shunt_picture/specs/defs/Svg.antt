-- Pieces of SVG.
use Rattle.std.specs.Prelude.{ℕ, ◌*◌, ◌==◌, min, List, [], ◌++◌, length, codes, decimal, if◌then◌else◌}
use Rattle.shunt_picture.specs.declared.svg.Area.{Area}

-- ` NAME='VALUE'`
unfoldable pub attribute : List ℕ → ℕ → List ℕ
attribute name value = codes " " ++ name ++ codes "='" ++ decimal value ++ codes "'"

-- a rectangle of a class with a number
unfoldable pub rectangle : List ℕ → ℕ → Area → List ℕ
rectangle class number a = codes "<rect class='" ++ class ++ decimal number ++ codes "'" ++ attribute (codes "x") a.x ++ attribute (codes "y") a.y
    ++ attribute (codes "width") a.width ++ attribute (codes "height") a.height ++ codes "/>\n"

-- a line to the right and then down
unfoldable pub stroke : List ℕ → Area → List ℕ
stroke class a = codes "<path class='" ++ class ++ codes "' d='M" ++ decimal a.x ++ codes " " ++ decimal a.y ++ codes "h" ++ decimal a.width ++ codes "v" ++ decimal a.height
    ++ codes "'/>\n"

-- how wide words are drawn, with that many pixels for a byte: the text itself says so, whatever letters a browser has
abbrev pub wide : ℕ → List ℕ → ℕ
wide unit words = unit * min (length words) 200

-- the beginning of words of a class at a place, that are so wide
unfoldable pub opened : List ℕ → ℕ → ℕ → ℕ → List ℕ
opened class x y width = codes "<text class='" ++ class ++ codes "'" ++ attribute (codes "x") x ++ attribute (codes "y") y ++ attribute (codes "textLength") width ++ codes ">"

-- such words
unfoldable pub element : List ℕ → ℕ → ℕ → ℕ → List ℕ → List ℕ
element class unit x y words = opened class x y (wide unit words) ++ words ++ codes "</text>\n"

-- nothing where there are none
unfoldable pub words_at : List ℕ → ℕ → ℕ → ℕ → List ℕ → List ℕ
words_at class unit x y words = if length words == 0 then [] else element class unit x y words

-- a small triangle at the corner of a bar
unfoldable pub corner : ℕ → ℕ → List ℕ → List ℕ
corner x y turn = codes "<path class='side' d='M" ++ decimal x ++ codes " " ++ decimal y ++ turn ++ codes "'/>\n"
