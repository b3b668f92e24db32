pub mod ChunkedMaps
