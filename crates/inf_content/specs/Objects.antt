-- How content objects are kept: by their identifiers.
use Rattle.std.specs.Prelude.{List, map}
use Rattle.inf_base.specs.declared.directory.DirRef.{DirRef}
use Rattle.inf_base.specs.declared.id.Id.{Id}
use Rattle.inf_base.specs.Content.{Content}
use Rattle.inf_content.specs.Contents.{changed_at}
use Rattle.inf_content.specs.declared.object.Object.{Object}

-- an object with its identifier
abbrev pub whole : Id → Object → Content
whole id object = record {
  dir = record { id = id; born = object.born };
  triple = object.triple;
  maker = object.maker;
  seal = object.seal;
  slots = object.slots;
}

-- the objects with their identifiers, in the same order
abbrev pub contents_of : List (Id × Object) → List Content
contents_of objects = map (λ (e : Id × Object). whole e.0 e.1) objects

-- the content objects with this object as that of a directory
abbrev pub with_object_at : DirRef → Object → List Content → List Content
with_object_at dir object contents = changed_at dir (λ (c : Content). whole c.dir.id object) contents
