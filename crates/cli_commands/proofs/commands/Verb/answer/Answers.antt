use Rattle.std.proofs.Common.{refl, length, map, string_bytes}
use Rattle.tlb_files.specs.View.{contents_of}
use Rattle.cli_commands.specs.Commands.{slots_of}
use Rattle.cli_commands.proofs.Words.{few-paths, schema-of, short-at, view-first}
use Rattle.cli_commands.proofs.commands.Verb.answer.Goals as goal

pub read_in-requires-clause-schema : goal.read_in-requires-clause-schema
read_in-requires-clause-schema c =
    schema-of c.args.self _ _ (map string_bytes c.args.words.now) (contents_of c.args.contents.now) c.in-Read.is refl c.requires.files

pub read_in-requires-clause-word : goal.read_in-requires-clause-word
read_in-requires-clause-word c = short-at (slots_of c.args.self (map string_bytes c.args.words.now)) (map string_bytes c.args.words.now) 1 c.requires.words

pub read_in-requires-in-Lax-clause-schema : goal.read_in-requires-in-Lax-clause-schema
read_in-requires-in-Lax-clause-schema c =
    schema-of c.args.self _ _ (map string_bytes c.args.words.now) (contents_of c.args.contents.now) c.in-Lax.is refl c.requires.files

pub read_in-requires-in-Lax-clause-word : goal.read_in-requires-in-Lax-clause-word
read_in-requires-in-Lax-clause-word c = short-at (slots_of c.args.self (map string_bytes c.args.words.now)) (map string_bytes c.args.words.now) 1 c.requires.words

pub returns-in-Read : goal.returns-in-Read
returns-in-Read c = rw (c.in-Read.is) c.read_in.ensures

pub returns-in-Lax : goal.returns-in-Lax
returns-in-Lax c = rw (c.in-Lax.is) c.read_in-in-Lax.ensures

pub returns-in-Hash : goal.returns-in-Hash
returns-in-Hash c = rw (c.in-Hash.is, ← c.bytes_at.ensures) c.hash.ensures

pub returns-in-Check : goal.returns-in-Check
returns-in-Check c = rw (c.in-Check.is, ← c.bytes_at-in-Check.ensures) c.check.ensures

pub view_in-requires-clause-schema : goal.view_in-requires-clause-schema
view_in-requires-clause-schema c =
    schema-of c.args.self _ _ (map string_bytes c.args.words.now) (contents_of c.args.contents.now) c.in-View.is
    (view-first (length (map string_bytes c.args.words.now))).1 c.requires.files

pub view_in-requires-clause-word : goal.view_in-requires-clause-word
view_in-requires-clause-word c =
    short-at (slots_of c.args.self (map string_bytes c.args.words.now)) (map string_bytes c.args.words.now) 1 c.requires.words

pub returns-in-View : goal.returns-in-View
returns-in-View c = rw (c.in-View.is) c.view_in.ensures

pub build_in-requires-clause-schema : goal.build_in-requires-clause-schema
build_in-requires-clause-schema c =
    schema-of c.args.self _ _ (map string_bytes c.args.words.now) (contents_of c.args.contents.now) c.in-Build.is refl c.requires.files

pub build_in-requires-clause-word : goal.build_in-requires-clause-word
build_in-requires-clause-word c =
    short-at (slots_of c.args.self (map string_bytes c.args.words.now)) (map string_bytes c.args.words.now) 1 c.requires.words

pub returns-in-Build : goal.returns-in-Build
returns-in-Build c = rw (c.in-Build.is) c.build_in.ensures

pub tidy_in-requires-clause-schema : goal.tidy_in-requires-clause-schema
tidy_in-requires-clause-schema c =
    schema-of c.args.self _ _ (map string_bytes c.args.words.now) (contents_of c.args.contents.now) c.in-Tidy.is refl c.requires.files

pub tidy_in-requires-clause-word : goal.tidy_in-requires-clause-word
tidy_in-requires-clause-word c =
    short-at (slots_of c.args.self (map string_bytes c.args.words.now)) (map string_bytes c.args.words.now) 1 c.requires.words

pub returns-in-Tidy : goal.returns-in-Tidy
returns-in-Tidy c = rw (c.in-Tidy.is) c.tidy_in.ensures

pub prove_in-requires-clause-schema : goal.prove_in-requires-clause-schema
prove_in-requires-clause-schema c =
    schema-of c.args.self _ _ (map string_bytes c.args.words.now) (contents_of c.args.contents.now) c.in-Prove.is refl c.requires.files

pub prove_in-requires-clause-word : goal.prove_in-requires-clause-word
prove_in-requires-clause-word c =
    short-at (slots_of c.args.self (map string_bytes c.args.words.now)) (map string_bytes c.args.words.now) 1 c.requires.words

pub returns-in-Prove : goal.returns-in-Prove
returns-in-Prove c = rw (c.in-Prove.is) c.prove_in.ensures

pub prove_in-requires-clause-paths : goal.prove_in-requires-clause-paths
prove_in-requires-clause-paths c =
    few-paths c.args.self (map string_bytes c.args.words.now) c.in-Prove.is c.requires.words

pub returns-in-Make : goal.returns-in-Make
returns-in-Make c = rw (c.in-Make.is) c.make_in.ensures
