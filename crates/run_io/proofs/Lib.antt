mod ReaderLaws
