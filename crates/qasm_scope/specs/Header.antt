-- The header that `include "qelib1.inc";` stands for: this project's own text, with the gates of the header that
-- Cross, Bishop, Smolin and Gambetta, "Open quantum assembly language" (arXiv 1707.03429) print, but for `cu3`, to
-- which headers in use give different maps; and further gates in use.
use Rattle.std.specs.Prelude.{ℕ, List, [], ◌∷◌, ◌++◌, codes}
use Rattle.std.specs.List.{concat}

-- the lines of the gates whose names no program that includes the header may declare
abbrev pub first_lines : List (List ℕ)
first_lines =
    codes "gate u3(theta,phi,lambda) q { U(theta,phi,lambda) q; }\n"
    ∷ codes "gate u2(phi,lambda) q { U(pi/2,phi,lambda) q; }\n"
    ∷ codes "gate u1(lambda) q { U(0,0,lambda) q; }\n"
    ∷ codes "gate cx c,t { CX c,t; }\n"
    ∷ codes "gate id a { U(0,0,0) a; }\n"
    ∷ codes "gate x a { u3(pi,0,pi) a; }\n"
    ∷ codes "gate y a { u3(pi,pi/2,pi/2) a; }\n"
    ∷ codes "gate z a { u1(pi) a; }\n"
    ∷ codes "gate h a { u2(0,pi) a; }\n"
    ∷ codes "gate s a { u1(pi/2) a; }\n"
    ∷ codes "gate sdg a { u1(-pi/2) a; }\n"
    ∷ codes "gate t a { u1(pi/4) a; }\n"
    ∷ codes "gate tdg a { u1(-pi/4) a; }\n"
    ∷ codes "gate rx(theta) a { u3(theta,-pi/2,pi/2) a; }\n"
    ∷ codes "gate ry(theta) a { u3(theta,0,0) a; }\n"
    ∷ codes "gate rz(phi) a { u1(phi) a; }\n"
    ∷ codes "gate cz a,b { h b; cx a,b; h b; }\n"
    ∷ codes "gate cy a,b { sdg b; cx a,b; s b; }\n"
    ∷ codes "gate ch a,b { h b; sdg b; cx a,b; h b; t b; cx a,b; t b; h b; s b; x b; s a; }\n"
    ∷ (codes "gate ccx a,b,c { h c; cx b,c; tdg c; cx a,c; t c; "
    ++ codes "cx b,c; tdg c; cx a,c; t b; t c; h c; cx a,b; t a; tdg b; cx a,b; }\n")
    ∷ codes "gate crz(lambda) a,b { u1(lambda/2) b; cx a,b; u1(-lambda/2) b; cx a,b; }\n"
    ∷ codes "gate cu1(lambda) a,b { u1(lambda/2) a; cx a,b; u1(-lambda/2) b; cx a,b; u1(lambda/2) b; }\n" ∷ []

-- the lines of further gates, whose names a program may declare itself
abbrev pub further_lines : List (List ℕ)
further_lines =
    codes "gate p(lambda) q { U(0,0,lambda) q; }\n"
    ∷ codes "gate u(theta,phi,lambda) q { U(theta,phi,lambda) q; }\n"
    ∷ codes "gate swap a,b { cx a,b; cx b,a; cx a,b; }\n"
    ∷ codes "gate sx a { sdg a; h a; sdg a; }\n"
    ∷ codes "gate sxdg a { s a; h a; s a; }\n"
    ∷ codes "gate cp(lambda) a,b { u1(lambda/2) a; cx a,b; u1(-lambda/2) b; cx a,b; u1(lambda/2) b; }\n"
    ∷ codes "gate cswap a,b,c { cx c,b; ccx a,b,c; cx c,b; }\n"
    ∷ codes "gate ccz a,b,c { h c; ccx a,b,c; h c; }\n"
    ∷ codes "gate crx(theta) a,b { h b; crz(theta) a,b; h b; }\n"
    ∷ codes "gate cry(theta) a,b { ry(theta/2) b; cx a,b; ry(-theta/2) b; cx a,b; }\n"
    ∷ codes "gate rzz(theta) a,b { cx a,b; u1(theta) b; cx a,b; }\n" ∷ []

-- the text of the first gates, and that of the further ones
abbrev pub first_text : List ℕ
first_text = concat first_lines

abbrev pub further_text : List ℕ
further_text = concat further_lines
