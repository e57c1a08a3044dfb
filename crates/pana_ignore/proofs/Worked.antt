-- Worked examples of the definitions, by computation: those of gitignore's manual page, and some of what it leaves open.
use Rattle.std.specs.Prelude.{◌≡◌, ℕ, Bool, true, false, List, [], ◌∷◌, map, codes}
use Rattle.std.proofs.Common.{refl}
use Rattle.pana_ignore.specs.Pattern.{ignores_here, is_ignored}
use Rattle.pana_ignore.specs.Reading.{patterns_of}

-- which of these files, and of these folders, are ignored
abbrev files : List ℕ → List (List ℕ) → List Bool
files text paths = map (λ path. is_ignored (patterns_of text) path false) paths

abbrev folders : List ℕ → List (List ℕ) → List Bool
folders text paths = map (λ path. is_ignored (patterns_of text) path true) paths

-- ---- the manual page

hello : files (codes "hello.*") (codes "hello.txt" ∷ codes "a/hello.java" ∷ codes "hello" ∷ []) ≡ true ∷ true ∷ false ∷ []
hello = refl

hello_at_root : files (codes "/hello.*") (codes "hello.txt" ∷ codes "hello.c" ∷ codes "a/hello.java" ∷ []) ≡ true ∷ true ∷ false ∷ []
hello_at_root = refl

-- a folder, and what is in it, but no file
foo_folder : folders (codes "foo/") (codes "foo" ∷ codes "a/foo" ∷ []) ≡ true ∷ true ∷ []
foo_folder = refl

foo_file : files (codes "foo/") (codes "foo" ∷ codes "foo/a" ∷ codes "a/foo/b/c" ∷ []) ≡ false ∷ true ∷ true ∷ []
foo_file = refl

-- a slash in the middle anchors a pattern, so one at the beginning changes nothing
frotz : folders (codes "doc/frotz") (codes "doc/frotz" ∷ codes "a/doc/frotz" ∷ []) ≡ true ∷ false ∷ []
frotz = refl

frotz_at_root : folders (codes "/doc/frotz") (codes "doc/frotz" ∷ codes "a/doc/frotz" ∷ []) ≡ true ∷ false ∷ []
frotz_at_root = refl

frotz_folder : folders (codes "doc/frotz/") (codes "doc/frotz" ∷ codes "a/doc/frotz" ∷ []) ≡ true ∷ false ∷ []
frotz_folder = refl

-- a star matches no slash
star : map (λ path. ignores_here (patterns_of (codes "foo/*")) path false) (codes "foo/test.json" ∷ codes "foo/bar" ∷ codes "foo/bar/hello.c" ∷ [])
    ≡ true ∷ true ∷ false ∷ []
star = refl

folders_before : files (codes "**/foo/bar") (codes "foo/bar" ∷ codes "a/b/foo/bar" ∷ codes "foo/a/bar" ∷ []) ≡ true ∷ true ∷ false ∷ []
folders_before = refl

everything_inside : files (codes "abc/**") (codes "abc" ∷ codes "abc/a" ∷ codes "abc/a/b/c" ∷ codes "x/abc/a" ∷ []) ≡ false ∷ true ∷ true ∷ false ∷ []
everything_inside = refl

folders_between : files (codes "a/**/b") (codes "a/b" ∷ codes "a/x/b" ∷ codes "a/x/y/b" ∷ codes "a/xb" ∷ []) ≡ true ∷ true ∷ true ∷ false ∷ []
folders_between = refl

-- other asterisks in a row are as one
other_asterisks : files (codes "a**/b") (codes "a/b" ∷ codes "ax/b" ∷ codes "ax/y/b" ∷ codes "ab" ∷ []) ≡ true ∷ true ∷ false ∷ false ∷ []
other_asterisks = refl

objects : files (codes "# objects and archives\n*.[oa]\n\n*.html\n!foo.html\n") (codes "src/internal.o" ∷ codes "lib.a" ∷ codes "lib.c" ∷ codes "x.html" ∷ codes "doc/foo.html" ∷ [])
    ≡ true ∷ true ∷ false ∷ true ∷ false ∷ []
objects = refl

-- everything but foo/bar
all_but_one : files (codes "/*\n!/foo\n/foo/*\n!/foo/bar\n") (codes "a" ∷ codes "foo/a" ∷ codes "foo/bar" ∷ codes "a/foo/bar" ∷ []) ≡ true ∷ true ∷ false ∷ true ∷ []
all_but_one = refl

-- what is in an ignored folder isn't brought back
not_brought_back : files (codes "foo/\n!foo/bar\n") (codes "foo/bar" ∷ []) ≡ true ∷ []
not_brought_back = refl

-- a line that begins with # is a comment, and a backslash makes it a pattern; so with !
hashes : files (codes "#a\n\\#b\n\\!important!.txt") (codes "#a" ∷ codes "#b" ∷ codes "!important!.txt" ∷ []) ≡ false ∷ true ∷ true ∷ []
hashes = refl

-- spaces at the end are dropped but where they are quoted, and so is a carriage return
spaces : files (codes "a  \nb\\ \nc \r\n") (codes "a" ∷ codes "a  " ∷ codes "b" ∷ codes "b " ∷ codes "c" ∷ []) ≡ true ∷ false ∷ false ∷ true ∷ true ∷ []
spaces = refl

-- ---- sets

sets : files (codes "[a-c]1\n[!a-c]2\n[^a-c]3\n[]a]4\n[a-]5\n[[:digit:]x]6\n[\\]]7\n[a-c-e]8\n")
    (codes "b1" ∷ codes "d1" ∷ codes "b2" ∷ codes "d2" ∷ codes "d3" ∷ codes "]4" ∷ codes "-5" ∷ codes "76" ∷ codes "x6" ∷ codes "]7" ∷ codes "-8" ∷ codes "d8" ∷ [])
    ≡ true ∷ false ∷ false ∷ true ∷ true ∷ true ∷ true ∷ true ∷ true ∷ true ∷ true ∷ false ∷ []
sets = refl

-- a set matches no slash, and one that isn't closed, or names no class, makes a pattern that matches nothing
faulty : files (codes "a[/]b\nc[\nd[[:foo:]]\ne\\") (codes "a/b" ∷ codes "c[" ∷ codes "df" ∷ codes "e\\" ∷ codes "e" ∷ []) ≡ false ∷ false ∷ false ∷ false ∷ false ∷ []
faulty = refl

-- ? is one byte, and é two
one_byte : files (codes "a?\nb??") ((97 ∷ 0xC3 ∷ 0xA9 ∷ []) ∷ (98 ∷ 0xC3 ∷ 0xA9 ∷ []) ∷ codes "ax" ∷ []) ≡ false ∷ true ∷ true ∷ []
one_byte = refl

-- the byte order mark isn't part of the first pattern
mark : files (0xEF ∷ 0xBB ∷ 0xBF ∷ codes "a") (codes "a" ∷ []) ≡ true ∷ []
mark = refl
